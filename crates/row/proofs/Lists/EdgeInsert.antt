-- An edge inserted, for every list at once: all are still sorted, and it is one of the moves that hindsight asks for.
use Prim.Native.Nat.{ℕ, ◌<◌}
use mathlib.Core.Path.{◌≡◌, refl, sym, ap, ◌∙◌}
use mathlib.Core.Logic.{◌⊎◌, inl, inr}
use native.Mathlib.Omega.{arith}
use lib.IntN.{ℤ}
use Rattle.row.proofs.Base.{upd_same, upd_at, upd_other, upds, same?}
use Rattle.row.proofs.Lists.Hindsight.{Moves}
use Rattle.row.proofs.Lists.LinkLaws.{inlist, owned}
use Rattle.row.proofs.Lists.Linking.{New, Put, put_sorted, put_moves}
use Rattle.row.specs.Lists.Edges.{Prev, head, at, Edges, is_marked, link, tag_at, key_at, Mine, eview, ESound, einsert, EFits}

module _ (E : Edges) (s : ESound E) (u v : ℕ) (k : ℤ) where
  abbrev D : Prev → Edges
  D p = einsert E u v k p

  mine_up : (p : Prev) (w : ℕ) (x : Prev) → Mine E w x → Mine (D p) w x
  mine_up p w head m = tt
  mine_up p w (at e) (inl z) = inl z
  mine_up p w (at e) (inr i) = let h = i.high in inr (record { low = i.low; high = omega arith; own = search (upds, i.own) })

  key_up : (p : Prev) (w : ℕ) (x : Prev) → Mine E w x → key_at (D p).key x ≡ key_at E.key x
  key_up p w head m = refl
  key_up p w (at e) (inl z) = let b = s.some in upd_other _ _ _ _ (omega arith)
  key_up p w (at e) (inr i) = let h = i.high in upd_other _ _ _ _ (omega arith)

  tag_up : (p : Prev) (w : ℕ) (x : Prev) → Mine E w x → tag_at (D p).tag x ≡ tag_at E.tag x
  tag_up p w head m = refl
  tag_up p w (at e) (inl z) = let b = s.some in ap is_marked (upd_other _ _ _ _ (omega arith))
  tag_up p w (at e) (inr i) = let h = i.high in ap is_marked (upd_other _ _ _ _ (omega arith))

  -- the fresh node leads where p led
  new_next : (p : Prev) → EFits E u k p → (D p).next E.used ≡ link E u p
  new_next head f = search upds
  new_next (at e) f = let h = (inlist E u e f.place).high in search upds

  below : (w e : ℕ) → Mine E w (at e) → e < E.used
  below w e (inl z) = let b = s.some in omega arith
  below w e (inr i) = i.high

  -- p leads to the fresh node
  p_new : (p : Prev) → EFits E u k p → link (D p) u p ≡ E.used
  p_new head f = upd_same _ _ _
  p_new (at e) f = upd_same _ _ _

  -- the fresh node in u's list
  new : (p : Prev) → EFits E u k p → New (at 0) (eview E u) (eview (D p) u) (at E.used) p
  new p f =
      let b = s.some in
      record {
        p_in = f.place.inside;
        p_inner = f.place.inner;
        p_plain = f.place.plain;
        p_next = ap at (p_new p f);
        new_in = inr (record { low = b; high = omega arith; own = upd_same _ _ _ });
        new_inner = λ e. (let j : E.used ≡ 0 = cc in omega arith);
        new_next = ap at (new_next p f);
        below = rw (upd_same) f.below;
        above = rw (upd_same) f.above;
      }

  turned : (p : Prev) → EFits E u k p → (w : ℕ) (x : Prev) → Mine E w x → (at (link (D p) w x) ≡ at (link E w x)) ⊎ New (at 0) (eview E w) (eview (D p) w) (at E.used) x
  turned head f w head m = elim (same? w u) [ inl q ↦ inr (rw q (new head f)) | inr n ↦ inl (search upds) ]
  turned head f w (at y) m = let b = below w y m in inl (ap at (upd_other _ _ _ _ (omega arith)))
  turned (at e) f w head m = inl refl
  turned (at e) f w (at y) m =
      let b = below w y m in
      elim (same? y e) [ inl q ↦ inr (rw (owned E u w e y f.place q m, q) (new (at e) f)) | inr n ↦ inl (search upds) ]

  which : (p : Prev) → EFits E u k p → (w : ℕ) (x : Prev) → Mine (D p) w x
      → Mine E w x ⊎ ((x ≡ at E.used) × (p' : Prev) × New (at 0) (eview E w) (eview (D p) w) (at E.used) p')
  which p f w head m = inl tt
  which p f w (at y) (inl z) = inl (inl z)
  which p f w (at y) (inr i) =
      elim (same? y E.used) [
        | inl q ↦ inr (ap at q, p, rw (sym i.own ∙ upd_at _ _ _ _ q) (new p f))
        | inr n ↦ inl (inr (record { low = i.low; high = omega (arith, i.high); own = sym (upd_other _ _ _ _ n) ∙ i.own }))
      ]

  put : (p : Prev) → EFits E u k p → (w : ℕ) → Put (at 0) (eview E w) (eview (D p) w) (at E.used)
  put p f w = record { stays = mine_up p w; key_kept = key_up p w; mark_same = tag_up p w; turned = turned p f w; which = which p f w }

  pub einsert_sound : (p : Prev) → EFits E u k p → ESound (D p)
  einsert_sound p f = record {
    some = omega (arith, s.some);
    sorted = λ w. put_sorted (s.sorted w) (put p f w);
    tail_plain = tag_up p u (at 0) (inl refl) ∙ s.tail_plain;
  }

  pub einsert_moves : (p : Prev) → EFits E u k p → (w : ℕ) → Moves head (at 0) (eview E w) (eview (D p) w)
  einsert_moves p f w = put_moves (s.sorted w) (put p f w)
