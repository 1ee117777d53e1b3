-- The changes of the vertex list: each keeps it `Sound`, and is one of the moves that hindsight asks for.
use Prim.Native.Nat.{ℕ, ◌<◌}
use mathlib.Core.Bool.{true, false}
use mathlib.Core.Path.{◌∙◌, ◌≡◌, sym}
use mathlib.Core.Logic.{inl, inr, ◌⊎◌}
use native.Mathlib.Omega.{arith}
use lib.IntN.{ℤ}
use Rattle.laws.proofs.Picks.{clash}
use Rattle.row.specs.Lists.Store.{Cat, view, insert, Fits, Sound, unlink, Gone, mark, Stands, Step, rests, inserts, unlinks, marks, Good}
use Rattle.row.proofs.Base.{upd_same, upds, same?, upd_other, upd_at}
use Rattle.row.proofs.Lists.Hindsight.{Moves}
use Rattle.row.proofs.Lists.Linking.{New, Put, put_sorted, put_moves, Over, past_sorted, past_moves, mark_sorted, mark_moves, rest_moves}

-- ---- a vertex inserted

module _ (C : Cat) (s : Sound C) (p : ℕ) (k : ℤ) (f : Fits C p k) where
  new : New 1 (view C) (view (insert C p k)) C.used p
  new =
      let h = f.inside.high in
      let b = s.some in
      record {
        p_in = h;
        p_inner = f.inside.inner;
        p_plain = f.inside.plain;
        p_next = upd_same _ _ _;
        new_in = omega arith;
        new_inner = omega arith;
        new_next = search upds;
        below = rw (upd_same) f.below;
        above = rw (upd_same) f.above;
      }

  put : Put 1 (view C) (view (insert C p k)) C.used
  put = record {
    stays = λ x h. omega arith;
    key_kept = λ x h. search upds;
    mark_same = λ x h. search upds;
    turned = λ x h. elim (same? x p) [ inl q ↦ inr (rw q new) | inr n ↦ inl (search upds) ];
    which = λ x h. elim (same? x C.used) [ inl q ↦ inr (q, p, new) | inr n ↦ inl (omega arith) ];
  }

  insert_sound : Sound (insert C p k)
  insert_sound = record {
    some = omega (arith, s.some);
    sorted = put_sorted s.sorted put;
    head_plain = let b = s.some in put.mark_same 0 (omega arith) ∙ s.head_plain;
    tail_plain = let b = s.some in put.mark_same 1 (omega arith) ∙ s.tail_plain;
  }

  insert_moves : Moves 0 1 (view C) (view (insert C p k))
  insert_moves = put_moves s.sorted put

-- ---- a vertex passed over

module _ (C : Cat) (s : Sound C) (p : ℕ) (g : Gone C p) where
  turned : (x : ℕ) → x < C.used → ((unlink C p).next x ≡ C.next x) ⊎ Over (view C) (unlink C p).next x
  turned x h =
      elim (same? x p) [
        | inl q ↦ inr (rw q (record { plain = g.inside.plain; gone = g.gone; over = upd_same _ _ _; left = upd_other _ _ _ _ (λ e. clash (cc (g.gone, g.inside.plain))) }))
        | inr n ↦ inl (upd_other _ _ _ _ n)
      ]

  unlink_sound : Sound (unlink C p)
  unlink_sound = record {
    some = s.some;
    sorted = past_sorted (view C) (unlink C p).next s.sorted s.tail_plain turned;
    head_plain = s.head_plain;
    tail_plain = s.tail_plain;
  }

  unlink_moves : Moves 0 1 (view C) (view (unlink C p))
  unlink_moves = past_moves (view C) (unlink C p).next s.sorted s.tail_plain turned

-- ---- a vertex marked

module _ (C : Cat) (s : Sound C) (y : ℕ) (w : Stands C y) where
  unmarked : (x : ℕ) → (mark C y).marked x ≡ false → C.marked x ≡ false
  unmarked x u = elim (same? x y) [ inl q ↦ clash (cc (upd_at C.marked y true x q)) | inr n ↦ sym (upd_other _ _ _ _ n) ∙ u ]

  vmark_sound : Sound (mark C y)
  vmark_sound = record {
    some = s.some;
    sorted = mark_sorted (view C) (mark C y).marked s.sorted unmarked;
    head_plain = let l = w.low in let n : 0 ≡ y → ⊥ = omega arith in upd_other _ _ _ _ n ∙ s.head_plain;
    tail_plain = let l = w.low in let n : 1 ≡ y → ⊥ = omega arith in upd_other _ _ _ _ n ∙ s.tail_plain;
  }

  vmark_moves : Moves 0 1 (view C) (view (mark C y))
  vmark_moves = mark_moves (view C) (mark C y).marked s.sorted unmarked

-- ---- every change

pub step_sound : {C D : Cat} → Step C D → Sound C → Sound D
step_sound rests s = s
step_sound {C} (inserts p k f) s = insert_sound C s p k f
step_sound {C} (unlinks p g) s = unlink_sound C s p g
step_sound {C} (marks x w) s = vmark_sound C s x w

pub step_moves : {C D : Cat} → Step C D → Sound C → Moves 0 1 (view C) (view D)
step_moves rests s = rest_moves s.sorted
step_moves {C} (inserts p k f) s = insert_moves C s p k f
step_moves {C} (unlinks p g) s = unlink_moves C s p g
step_moves {C} (marks x w) s = vmark_moves C s x w

pub good_up : {C D : Cat} → Step C D → Good C → Good D
good_up {C} {D} t g =
    let m = step_moves t g.sound in
    let b = g.sound.some in
    record { sound = step_sound t g.sound; key_head = m.key_kept 0 (omega arith) ∙ g.key_head; key_tail = m.key_kept 1 (omega arith) ∙ g.key_tail }
