-- Counting the numbers below a bound that pass a test:
-- where a test passes more, or there are more numbers, the count is no less.
use Prim.Native.Nat.{ℕ, zero, suc, ◌≤◌, ◌<◌}
use mathlib.Core.Bool.{Bool, true, false}
use mathlib.Core.Logic.{inl, inr}
use mathlib.Core.Path.{◌≡◌, refl}
use native.Mathlib.Omega.{arith}
use Rattle.catalogue.specs.Tests.{pick}
use Rattle.catalogue.specs.Workers.{count}
use Rattle.row.proofs.Base.{same?}

pick_le : (a b : Bool) → (a ≡ true → b ≡ true) → pick a 1 0 ≤ pick b 1 0
pick_le true b h = rw (h refl) (omega arith)
pick_le false b h = omega arith

count_longer : (f : ℕ → Bool) (n m : ℕ) → n ≤ m → count f n ≤ count f m
unfolding count
count_longer f n zero h = let e : n ≡ 0 = omega arith in rw e (omega arith)
count_longer f n (suc m) h =
    elim (same? n (suc m)) [ inl e ↦ rw e (omega arith) | inr d ↦ omega (arith, count_longer f n m (omega arith)) ]

module _ (f g : ℕ → Bool) where
  count_wider : (n : ℕ) → ((x : ℕ) → x < n → f x ≡ true → g x ≡ true) → count f n ≤ count g n
  unfolding count
  count_wider zero h = omega arith
  count_wider (suc n) h = omega (arith, count_wider n (λ x l. h x (omega arith)), pick_le (f n) (g n) (h n (omega arith)))

  pub count_le : (n m : ℕ) → n ≤ m → ((x : ℕ) → x < n → f x ≡ true → g x ≡ true) → count f n ≤ count g m
  count_le n m l h = omega (arith, count_wider n h, count_longer g n m l)

  -- one number more passes
  pub count_more : (n y : ℕ) → y < n → f y ≡ false → g y ≡ true → ((x : ℕ) → x < n → f x ≡ true → g x ≡ true) → suc (count f n) ≤ count g n
  unfolding count
  count_more zero y b p q h = absurd (omega arith)
  count_more (suc n) y b p q h =
      elim (same? y n) [
        | inl e ↦ rw (← e, p, q) (omega (arith, count_wider y (λ x l. h x (omega arith))))
        | inr d ↦ omega (arith, count_more n y (omega arith) p q (λ x l. h x (omega arith)), pick_le (f n) (g n) (h n (omega arith)))
      ]
