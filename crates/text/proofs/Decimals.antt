-- A number's decimal digits are those of its tenth and then its last one, whatever bounds the recursion.
use Prim.Native.Nat.{ℕ, zero, suc, ◌+◌, ◌^◌, ◌/◌, ◌%◌, ◌≤◌, ◌<◌}
use mathlib.Core.Bool.{true, false}
use mathlib.Core.List.{[], ◌∷◌, ◌++◌}
use mathlib.Core.Path.{◌≡◌, refl, sym, ap, ◌∙◌}
use native.Mathlib.Omega.{arith}
use native.Mathlib.Nat.{pow-suc}
use mir.Syntax.{w32}
use mir.Val.{SFits}
use lib.IntN.{ℤ, pos, negsuc}
use lib.ListN.{length, length-append}
use lib.Dec.{ltb}
use borrow.Author.Tests.{lt-ltb, le-ltb, ltb-true, ltb-false}
use Rattle.catalogue.specs.Text.{digits, decimal, number}

one_or_more : {A : Type 0} (n : ℕ) → (n < 10 → A) → (10 ≤ n → A) → A
one_or_more {A} n one more = (elim (ltb n 10) as (λ t. ltb n 10 ≡ t → A) [ true ↦ λ e. one (ltb-true n 10 e) | false ↦ λ e. more (ltb-false n 10 e) ]) refl

pub digits_one : (most n : ℕ) → n < 10 → digits (suc most) n ≡ (48 + n) ∷ []
unfolding digits
digits_one most n h = rw (lt-ltb n 10 h, digits)

pub digits_more : (most n : ℕ) → 10 ≤ n → digits (suc most) n ≡ digits most (n / 10) ++ ((48 + n % 10) ∷ [])
unfolding digits
digits_more most n h = rw (le-ltb n 10 h, digits)

-- any bound above the number gives the same digits
pub digits_enough : (f g n : ℕ) → n < f → n < g → digits f n ≡ digits g n
digits_enough zero g n h k = absurd (omega arith)
digits_enough (suc f) zero n h k = absurd (omega arith)
digits_enough (suc f) (suc g) n h k =
    one_or_more
    n
    (λ one. digits_one f n one ∙ sym (digits_one g n one))
    (λ more. digits_more f n more ∙ ap (λ front. front ++ ((48 + n % 10) ∷ [])) (digits_enough f g (n / 10) (omega arith) (omega arith)) ∙ sym (digits_more g n more))

pub decimal_one : (n : ℕ) → n < 10 → decimal n ≡ (48 + n) ∷ []
decimal_one n h = digits_one n n h

pub decimal_more : (n : ℕ) → 10 ≤ n → decimal n ≡ decimal (n / 10) ++ ((48 + n % 10) ∷ [])
decimal_more n h = digits_more n n h ∙ ap (λ front. front ++ ((48 + n % 10) ∷ [])) (digits_enough n (suc (n / 10)) (n / 10) (omega arith) (omega arith))

pub length_more : (n : ℕ) → 10 ≤ n → length (decimal n) ≡ length (decimal (n / 10)) + 1
length_more n h = ap length (decimal_more n h) ∙ length-append (decimal (n / 10)) ((48 + n % 10) ∷ [])

pub length_some : (n : ℕ) → 1 ≤ length (decimal n)
length_some n =
    one_or_more n (λ h. omega (arith, ap length (decimal_one n h))) (λ h. omega (arith, length_more n h))

-- k digits more than one hold every number below that power of ten
pub length_most : (k n : ℕ) → n < 10 ^ suc k → length (decimal n) ≤ suc k
length_most zero n h = omega (arith, ap length (decimal_one n h))
length_most (suc k) n h =
    one_or_more
    n
    (λ s. omega (arith, ap length (decimal_one n s)))
    (λ l. omega (arith, length_more n l, length_most k (n / 10) (omega (arith, pow-suc 10 (suc k)))))

pub length_decimal : (n : ℕ) → n < 2 ^ 32 → length (decimal n) ≤ 10
length_decimal n h = length_most 9 n (omega arith)

pub length_number : (z : ℤ) → SFits w32 z → length (number z) ≤ 11
unfolding number
length_number (pos n) f = omega (arith, length_decimal n (omega (arith, f.sfits)))
length_number (negsuc n) f = omega (arith, length_decimal (suc n) (omega (arith, f.sfits)))
