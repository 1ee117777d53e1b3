-- Laws of one linked list: its runs, its rising keys, and what is not live in it. And whose list an edge is in.
use Prim.Native.Nat.{ℕ}
use mathlib.Core.Bool.{true}
use mathlib.Core.Path.{◌≡◌, sym, ap, ◌∙◌}
use mathlib.Core.Logic.{◌⊎◌, inl, inr}
use lib.IntN.{ℤ}
use lib.Signed.{◌<ℤ◌, <ℤ_irrefl}
use Rattle.laws.proofs.Picks.{clash}
use Rattle.row.proofs.Base.{<ℤ-trans}
use Rattle.row.specs.Lists.Links.{Run, stop, go, View, Reached, Sorted, Live}
use Rattle.row.specs.Lists.Edges.{at, Edges, InList, Mine, EInner}

pub run_trans : {N : Type 0} {nx : N → N} {tl b a c : N} → Run nx tl b a → Run nx tl c b → Run nx tl c a
run_trans (stop e) s = rw e s
run_trans (go h r) s = go h (run_trans r s)

pub run_tail : {N : Type 0} {nx : N → N} {tl a b : N} → (b ≡ a → ⊥) → Run nx tl b a → Run nx tl b (nx a)
run_tail h (stop e) = absurd (h (sym e))
run_tail h (go k r) = r

pub det : {N : Type 0} {nx : N → N} {tl b a c : N} → Run nx tl b a → Run nx tl c a → Run nx tl c b ⊎ Run nx tl b c
det (stop e) q = inl (rw e at q)
det (go h r) (stop e) = inr (rw e at (go h r))
det (go h r) (go k q) = det r q

module _ {N : Type 0} (hd tl : N) (C : View N) (s : Sorted hd tl C) where
  pub run_in : {b a : N} → C.mine a → Run C.next tl b a → C.mine b
  run_in h (stop e) = rw e at h
  run_in {a = a} h (go n r) = run_in (s.follows a h n).inside r

  pub run_above : {b a : N} → C.mine a → Run C.next tl b a → (a ≡ b) ⊎ (C.key a <ℤ C.key b)
  run_above h (stop e) = inl e
  run_above {a = a} h (go n r) =
      let f = s.follows a h n in
      elim (run_above f.inside r) [ inl e ↦ inr (rw e at f.above) | inr l ↦ inr (<ℤ-trans f.above l) ]

  pub reached_in : {x : N} → Reached hd tl C x → C.mine x
  reached_in r = run_in s.head_in r

  -- a reached node has its key to itself
  pub unique : {x y : N} → Reached hd tl C x → Reached hd tl C y → C.key x ≡ C.key y → x ≡ y
  unique {x} {y} p q e =
      elim (det p q) [
        | inl r ↦ elim (run_above (reached_in p) r) [ inl z ↦ z | inr l ↦ absurd (<ℤ_irrefl (rw e at l)) ]
        | inr r ↦ elim (run_above (reached_in q) r) [ inl z ↦ sym z | inr l ↦ absurd (<ℤ_irrefl (rw e at l)) ]
      ]

  -- nothing reached has a key between that of a reached p and the next one's
  pub gap : {p x : N} {k : ℤ} → Reached hd tl C p → C.key p <ℤ k → k <ℤ C.key (C.next p) → (p ≡ tl → ⊥) → Reached hd tl C x → C.key x ≡ k → ⊥
  gap {p} {x} {k} r l h n q e =
      elim (det r q) [
        | inl w ↦ after w
        | inr w ↦ elim (run_above (reached_in q) w) [ inl z ↦ <ℤ_irrefl {a = k} (rw (← e) (rw (← z) at (rw (← e) at l))) | inr m ↦ <ℤ_irrefl (<ℤ-trans l (rw e at m)) ]
      ]
    where
      after : Run C.next tl x p → ⊥
      after (stop z) = <ℤ_irrefl {a = k} (rw (z, e) at l)
      after (go m w) =
          elim (run_above (s.follows p (reached_in r) n).inside w) [
            | inl z ↦ <ℤ_irrefl {a = k} (rw (z, e) at h)
            | inr m ↦ <ℤ_irrefl (<ℤ-trans h (rw e at m))
          ]

  pub gap_dead : {p : N} {k : ℤ} → Reached hd tl C p → C.key p <ℤ k → k <ℤ C.key (C.next p) → (p ≡ tl → ⊥) → Live C k → ⊥
  gap_dead r l h n v = gap r l h n (s.linked v.node v.inside v.plain) v.has

  pub marked_dead : {c : N} → Reached hd tl C c → C.marked c ≡ true → Live C (C.key c) → ⊥
  marked_dead {c} r m v =
      let e : v.node ≡ c = unique (s.linked v.node v.inside v.plain) r v.has in
      clash (cc (ap C.marked e, v.plain))

-- a run, node by node: if each node's step can be made good over `nx`, so can the run
pub run_fold : {N : Type 0} (hd tl : N) (C : View N) → Sorted hd tl C → (nx : N → N) (b : N)
    → ((a : N) → C.mine a → (a ≡ tl → ⊥) → Run nx tl b (C.next a) → Run nx tl b a)
    → {a : N} → C.mine a → Run C.next tl b a → Run nx tl b a
run_fold hd tl C s nx b f m (stop e) = stop e
run_fold hd tl C s nx b f {a = a} m (go h r) = f a m h (run_fold hd tl C s nx b f (s.follows a m h).inside r)

-- ---- edge lists

module _ (E : Edges) (u : ℕ) where
  -- a node of u's list that is not the tail is handed out
  pub no_tail : (e : ℕ) → Mine E u (at e) → (e ≡ 0 → ⊥) → InList E u e
  no_tail e (inl z) n = absurd (n z)
  no_tail e (inr i) n = i

  pub inlist : (e : ℕ) → EInner E u (at e) → InList E u e
  inlist e n = no_tail e n.inside (λ z. n.inner (ap at z))

  pub owned : (w e y : ℕ) → EInner E u (at e) → y ≡ e → Mine E w (at y) → w ≡ u
  owned w e y n q (inl z) = absurd (n.inner (ap at (sym q ∙ z)))
  owned w e y n q (inr i) = cc ((inlist e n).own, i.own)
