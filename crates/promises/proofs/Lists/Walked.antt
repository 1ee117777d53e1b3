-- A walk whose keys rise strictly meets no node twice, and so, by the pigeonhole law, all that its start leads to.
use Prim.Native.Nat.{ℕ, zero, suc, ◌≤◌, ◌<◌}
use mathlib.Core.Bool.{true}
use mathlib.Core.List.{◌∷◌}
use mathlib.Core.Path.{◌≡◌, refl, sym, ◌∙◌}
use native.Mathlib.Omega.{arith}
use lib.IntN.{ℤ}
use lib.ListN.{length}
use lib.Signed.{◌<ℤ◌}
use Rattle.catalogue.specs.Tests.{member}
use Rattle.catalogue.specs.Live.{walk}
use Rattle.laws.proofs.Members.{All, all_each, all_member}
use Rattle.laws.proofs.Distinct.{Distinct, pigeons}
use Rattle.laws.proofs.Keys.{rising_distinct}
use Rattle.laws.proofs.Walks.{walk_step, walked, run_walk, Climbs, walk_rising, walk_all}
use Rattle.row.specs.Lists.Links.{Run, stop, go}

module _ (next : ℕ → ℕ) (end : ℕ) where
  -- what holds of every node of a walk with fuel left over holds of all that its start leads to
  all_met : (P : ℕ → Type 0) (n x y : ℕ) → length (walk next end n x) < n → Run next end y x → (y ≡ end → ⊥) → All P (walk next end n x) → P y
  all_met P zero x y h r d a = absurd (omega arith)
  all_met P (suc n) x y h (stop q) d a = let b : All P (x ∷ walk next end n (next x)) = rw (walk_step next end n x (λ e. d (sym q ∙ e))) at a in rw q at b.0
  all_met P (suc n) x y h (go k r) d a =
      let l : suc (length (walk next end n (next x))) < suc n = rw (walk_step next end n x k) at h in
      let b : All P (x ∷ walk next end n (next x)) = rw (walk_step next end n x k) at a in
      all_met P n (next x) y (omega arith) r d b.1

  -- and more fuel changes nothing
  pub spare : (n x : ℕ) → length (walk next end n x) < n → walk next end (suc n) x ≡ walk next end n x
  spare n x h = run_walk next end (suc n) x (walk next end n x) (walked next end (λ y. y ≡ end) refl n x (λ y e. absurd (omega arith))) (omega arith)

  module _ (key : ℕ → ℤ) (mine : ℕ → Type 0) (rises : (x : ℕ) → mine x → (x ≡ end → ⊥) → mine (next x) × (key x <ℤ key (next x))) (n x : ℕ) (m : mine x) where
    pub walk_mine : All (λ y. mine y × (y ≡ end → ⊥)) (walk next end n x)
    walk_mine = walk_all next end mine (λ y p d. (rises y p d).0) n x m

    pub walk_climbs : Climbs next end key (walk next end n x)
    walk_climbs = all_each (λ y. mine y × (y ≡ end → ⊥)) (λ y. key y <ℤ key (next y)) (λ y p. (rises y p.0 p.1).1) (walk next end n x) walk_mine

    pub walk_distinct : Distinct (walk next end n x)
    walk_distinct = rising_distinct key (walk next end n x) (walk_rising next end key n x walk_climbs)

    module _ (b : (y : ℕ) → mine y → y < n) (e : end < n) where
      -- a fuel above every number of the list is not used up
      pub walk_spare : length (walk next end n x) < n
      walk_spare =
          let l : suc (length (walk next end n x)) ≤ n =
          pigeons 0 n (end ∷ walk next end n x)
          (all_each (λ y. mine y × (y ≡ end → ⊥)) (λ y. y ≡ end → ⊥) (λ y p. p.1) (walk next end n x) walk_mine, walk_distinct)
          (omega arith, all_each (λ y. mine y × (y ≡ end → ⊥)) _ (λ y p. let h = b y p.0 in omega arith) (walk next end n x) walk_mine) in
          omega arith

      -- so nothing is missed
      pub walk_meets : (y : ℕ) → Run next end y x → (y ≡ end → ⊥) → member y (walk next end n x) ≡ true
      walk_meets y r d = all_met (λ z. member z (walk next end n x) ≡ true) n x y walk_spare r d (all_member (walk next end n x))
