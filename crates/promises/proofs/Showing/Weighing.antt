-- The sum of a function over the numbers below a bound that pass a test, and over a list.
use Prim.Native.Nat.{ℕ, zero, suc, ◌+◌, ◌*◌, ◌<◌}
use mathlib.Core.Bool.{Bool, true, false}
use mathlib.Core.List.{List, [], ◌∷◌, ◌++◌}
use mathlib.Core.Logic.{inl, inr}
use mathlib.Core.Path.{◌≡◌, refl, ap₂}
use native.Mathlib.Omega.{arith}
use lib.ListN.{length}
use Rattle.catalogue.specs.Tests.{pick, upd}
use Rattle.row.proofs.Base.{upd_at, upd_other, same?}
use Rattle.promises.specs.Bounds.{total}

unfoldable pub weigh : (ℕ → ℕ) → (ℕ → Bool) → ℕ → ℕ
weigh f test zero = 0
weigh f test (suc n) = weigh f test n + pick (test n) (f n) 0

pub weigh_none : (f : ℕ → ℕ) (n : ℕ) → weigh f (λ x. false) n ≡ 0
unfolding weigh
weigh_none f zero = refl
weigh_none f (suc n) = rw (weigh_none f n) refl

module _ (f : ℕ → ℕ) (test : ℕ → Bool) (x : ℕ) where
  weigh_below : (n : ℕ) → n < suc x → weigh f (upd test x true) n ≡ weigh f test n
  unfolding weigh
  weigh_below zero h = refl
  weigh_below (suc n) h = rw (weigh_below n (omega arith), upd_other test x true n (λ e. omega arith)) refl

  -- one number more passes
  pub weigh_one_more : test x ≡ false → (n : ℕ) → x < n → weigh f (upd test x true) n ≡ weigh f test n + f x
  unfolding weigh
  weigh_one_more q zero h = absurd (omega arith)
  weigh_one_more q (suc n) h =
      elim (same? n x) [
        | inl e ↦ rw (e, upd_at test x true x refl, q, weigh_below x (omega arith)) (omega arith)
        | inr d ↦ rw (upd_other test x true n d) (omega (arith, weigh_one_more q n (omega arith)))
      ]

pub weigh_same : (f g : ℕ → ℕ) (test : ℕ → Bool) (n : ℕ) → ((x : ℕ) → x < n → test x ≡ true → f x ≡ g x) → weigh f test n ≡ weigh g test n
unfolding weigh
weigh_same f g test zero h = refl
weigh_same f g test (suc n) h = ap₂ ◌+◌ (weigh_same f g test n (λ x l. h x (omega arith))) (by (test n) refl)
  where
    by : (b : Bool) → test n ≡ b → pick b (f n) 0 ≡ pick b (g n) 0
    by true e = h n (omega arith) e
    by false e = refl

pub total_two : (f : ℕ → ℕ) (xs : List ℕ) → total (λ x. 2 + f x) xs ≡ 2 * length xs + total f xs
unfolding total
total_two f [] = refl
total_two f (x ∷ xs) = rw (total_two f xs) (omega arith)

pub total_last : (f : ℕ → ℕ) (xs : List ℕ) (x : ℕ) → total f (xs ++ (x ∷ [])) ≡ total f xs + f x
unfolding total
total_last f [] x = omega arith
total_last f (y ∷ ys) x = rw (total_last f ys x) (omega arith)
