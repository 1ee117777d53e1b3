-- What a step of a trial does, and what is known where it does so.
use Prim.Native.Nat.{ℕ}
use mathlib.Core.Bool.{Bool, true, false, cond, ◌||◌}
use mathlib.Core.Path.{◌≡◌, refl}
use mathlib.Core.Logic.{◌⊎◌, inl, inr}
use mathlib.Core.List.{List, [], ◌∷◌}
use lib.IntN.{ℤ}
use lib.Dec.{eqb}
use borrow.Author.Tests.{eqb-true, eqb-false}
use Rattle.row.proofs.Tests.{or_true, or_false}
use Rattle.row.specs.Lists.Edges.{marked, added, retag}
use Rattle.row.specs.Machine.World.{World, Opened, closed, opened, Hunt, stands_at, meets, took, Trial, Next, goes, says, with_e}
use Rattle.row.specs.Machine.Moves.{crosses, hunt_open, hunt_take, hunts, trial}
use Rattle.row.proofs.Steps.Outcomes.{DeadV}
use Rattle.row.proofs.Steps.EdgeMeans.{Calm, calm}

module _ (W : World) (k l : ℤ) (u v e : ℕ) (h : Hunt) where
  pub data TMeans : Next → Type 0 where
    t_dead : DeadV W u v → TMeans (says (with_e W (retag W.e e marked)) 3)
    -- no vertex is open: the queue is empty, or its front is the source, marked, or opened
    t_done : Calm W u v → h.stand ≡ closed → h.todo ≡ [] → TMeans (says (with_e W (retag W.e e added)) 1)
    t_source : h.stand ≡ closed → TMeans (says (with_e W (retag W.e e marked)) 6)
    t_drops : Calm W u v → h.stand ≡ closed → (x : ℕ) (xs : List ℕ) → h.todo ≡ x ∷ xs → (x ≡ u → ⊥) → W.v.marked x ≡ true
        → TMeans (goes W (Trial k l u v e (took h x xs closed)))
    t_enters : Calm W u v → h.stand ≡ closed → (x : ℕ) (xs : List ℕ) → h.todo ≡ x ∷ xs → (x ≡ u → ⊥) → W.v.marked x ≡ false
        → TMeans (goes W (Trial k l u v e (took h x xs (opened x (W.e.first x)))))
    -- x is open at its edge c: x is closed, or c is crossed or passed
    t_closes : Calm W u v → (x c : ℕ) → h.stand ≡ opened x c → (W.v.marked x ≡ true) ⊎ (c ≡ 0) → TMeans (goes W (Trial k l u v e (stands_at h closed)))
    t_meets : Calm W u v → (x c : ℕ) → h.stand ≡ opened x c → (c ≡ 0 → ⊥) → crosses W e h c ≡ true
        → TMeans (goes W (Trial k l u v e (meets h (W.e.target c) (opened x (W.e.next c)))))
    t_passes : Calm W u v → (x c : ℕ) → h.stand ≡ opened x c → (c ≡ 0 → ⊥) → crosses W e h c ≡ false
        → TMeans (goes W (Trial k l u v e (stands_at h (opened x (W.e.next c)))))

  takes : Calm W u v → h.stand ≡ closed → (todo : List ℕ) → h.todo ≡ todo → TMeans (hunt_take W k l u v e h todo)
  takes m s [] r = t_done m s r
  takes m s (x ∷ xs) r = by (eqb x u) (W.v.marked x) refl refl
    where
      by : (a b : Bool) → eqb x u ≡ a → W.v.marked x ≡ b
          → TMeans (cond a (says (with_e W (retag W.e e marked)) 6)
          (cond b (goes W (Trial k l u v e (took h x xs closed))) (goes W (Trial k l u v e (took h x xs (opened x (W.e.first x)))))))
      by true b f j = t_source s
      by false true f j = t_drops m s x xs r (eqb-false x u f) j
      by false false f j = t_enters m s x xs r (eqb-false x u f) j

  opens : Calm W u v → (x c : ℕ) → h.stand ≡ opened x c → TMeans (hunt_open W k l u v e h x c)
  opens m x c s = by (W.v.marked x || eqb c 0) (crosses W e h c) refl refl
    where
      ends : (W.v.marked x ≡ true) ⊎ (eqb c 0 ≡ true) → (W.v.marked x ≡ true) ⊎ (c ≡ 0)
      ends (inl z) = inl z
      ends (inr z) = inr (eqb-true c 0 z)

      inner : (W.v.marked x || eqb c 0) ≡ false → c ≡ 0 → ⊥
      inner f = eqb-false c 0 (or_false (W.v.marked x) (eqb c 0) f).1

      by : (a b : Bool) → (W.v.marked x || eqb c 0) ≡ a → crosses W e h c ≡ b
          → TMeans (cond a (goes W (Trial k l u v e (stands_at h closed)))
          (cond b (goes W (Trial k l u v e (meets h (W.e.target c) (opened x (W.e.next c))))) (goes W (Trial k l u v e (stands_at h (opened x (W.e.next c)))))))
      by true b f j = t_closes m x c s (ends (or_true (W.v.marked x) (eqb c 0) f))
      by false true f j = t_meets m x c s (inner f) j
      by false false f j = t_passes m x c s (inner f) j

  pub tmeans : TMeans (trial W k l u v e h)
  tmeans = by (W.v.marked u || W.v.marked v) refl h.stand refl
    where
      by : (a : Bool) → (W.v.marked u || W.v.marked v) ≡ a → (o : Opened) → h.stand ≡ o
          → TMeans (cond a (says (with_e W (retag W.e e marked)) 3) (hunts W k l u v e h o))
      by true f o s = t_dead (or_true (W.v.marked u) (W.v.marked v) f)
      by false f closed s = takes (calm W u v f) s h.todo refl
      by false f (opened x c) s = opens (calm W u v f) x c s
