-- The changes of the edge lists, for every list at once: each keeps them `ESound`, and is one of the moves that
-- hindsight asks for.
use Prim.Native.Nat.{ℕ}
use mathlib.Core.Bool.{false}
use mathlib.Core.Path.{◌≡◌, refl, ap, sym, ◌∙◌}
use mathlib.Core.Logic.{◌⊎◌, inl, inr}
use native.Mathlib.Omega.{arith}
use Rattle.catalogue.specs.Tests.{upd}
use Rattle.row.specs.Lists.Edges.{Prev, head, at, Edges, is_marked, link, Mine, eview, ESound, eunlink, EGone, Tag, tag_at, retag, Turns, EStep, erests, einserts, eunlinks, retags}
use Rattle.row.proofs.Base.{upd_same, upd_at, upd_other, upds, same?}
use Rattle.row.proofs.Lists.LinkLaws.{owned}
use Rattle.row.proofs.Lists.Hindsight.{Moves}
use Rattle.row.proofs.Lists.Linking.{Over, past_sorted, past_moves, mark_sorted, mark_moves, rest_moves}
use Rattle.row.proofs.Lists.EdgeInsert.{einsert_sound, einsert_moves}

-- ---- an edge passed over

module _ (E : Edges) (s : ESound E) (u : ℕ) where
  over : (p : Prev) → EGone E u p → Over (eview E u) (λ y. at (link (eunlink E u p) u y)) p
  over head g = record { plain = refl; gone = ap is_marked g.gone; over = ap at (upd_same _ _ _); left = refl }
  over (at e) g = record { plain = g.place.plain; gone = ap is_marked g.gone; over = ap at (upd_same _ _ _); left = ap at (left e) }
    where
      -- the node that goes keeps its link
      left : (e : ℕ) → upd E.next e (E.next (E.next e)) (E.next e) ≡ E.next (E.next e)
      left e = elim (same? (E.next e) e) [ inl q ↦ upd_at _ _ _ _ q | inr n ↦ upd_other _ _ _ _ n ]

  turned : (p : Prev) → EGone E u p → (w : ℕ) (x : Prev) → Mine E w x → (at (link (eunlink E u p) w x) ≡ at (link E w x)) ⊎ Over (eview E w) (λ y. at (link (eunlink E u p) w y)) x
  turned head g w head m = elim (same? w u) [ inl q ↦ inr (rw q (over head g)) | inr n ↦ inl (search upds) ]
  turned head g w (at y) m = inl refl
  turned (at e) g w head m = inl refl
  turned (at e) g w (at y) m = elim (same? y e) [ inl q ↦ inr (rw (owned E u w e y g.place q m, q) (over (at e) g)) | inr n ↦ inl (search upds) ]

  eunlink_sound : (p : Prev) → EGone E u p → ESound (eunlink E u p)
  eunlink_sound p g = record {
    some = s.some;
    sorted = λ w. past_sorted (eview E w) (λ y. at (link (eunlink E u p) w y)) (s.sorted w) s.tail_plain (turned p g w);
    tail_plain = s.tail_plain;
  }

  eunlink_moves : (p : Prev) → EGone E u p → (w : ℕ) → Moves head (at 0) (eview E w) (eview (eunlink E u p) w)
  eunlink_moves p g w = past_moves (eview E w) (λ y. at (link (eunlink E u p) w y)) (s.sorted w) s.tail_plain (turned p g w)

-- ---- a tag changed, and every change

module _ (E : Edges) (s : ESound E) (e : ℕ) (t : Tag) (g : Turns E e) where
  -- a node that is unmarked now was before
  plain_down : (x : Prev) → tag_at (retag E e t).tag x ≡ false → tag_at E.tag x ≡ false
  plain_down head p = refl
  plain_down (at y) p = elim (same? y e) [ inl q ↦ rw q g.plain | inr n ↦ ap is_marked (sym (upd_other _ _ _ _ n)) ∙ p ]

  retag_sound : ESound (retag E e t)
  retag_sound = record {
    some = s.some;
    sorted = λ w. mark_sorted (eview E w) (tag_at (retag E e t).tag) (s.sorted w) plain_down;
    tail_plain = let l = g.low in ap is_marked (upd_other _ _ _ _ (omega arith)) ∙ s.tail_plain;
  }

  retag_moves : (w : ℕ) → Moves head (at 0) (eview E w) (eview (retag E e t) w)
  retag_moves w = mark_moves (eview E w) (tag_at (retag E e t).tag) (s.sorted w) plain_down

pub estep_sound : {E D : Edges} → EStep E D → ESound E → ESound D
estep_sound erests s = s
estep_sound {E} (einserts u v k p f) s = einsert_sound E s u v k p f
estep_sound {E} (eunlinks u p g) s = eunlink_sound E s u p g
estep_sound {E} (retags e t g) s = retag_sound E s e t g

pub estep_moves : {E D : Edges} → EStep E D → ESound E → (w : ℕ) → Moves head (at 0) (eview E w) (eview D w)
estep_moves erests s w = rest_moves (s.sorted w)
estep_moves {E} (einserts u v k p f) s w = einsert_moves E s u v k p f w
estep_moves {E} (eunlinks u p g) s w = eunlink_moves E s u p g w
estep_moves {E} (retags e t g) s w = retag_moves E s e t g w
