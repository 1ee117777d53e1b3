-- What is in the met set after a number is added; that the sum which adds it fits its word;
-- and that the ones of its words are its count.
use Prim.Native.Nat.{ℕ, zero, suc, ◌+◌, ◌*◌, ◌-◌, ◌/◌, ◌%◌, ◌^◌, ◌<◌}
use mathlib.Core.Bool.{Bool, true, false}
use mathlib.Core.List.{List}
use mathlib.Core.Path.{◌≡◌, refl, sym, ap, ap₂, ◌∙◌, subst}
use native.Mathlib.Omega.{arith}
use native.Mathlib.Nat.{zero-div}
use native.Mathlib.Decide.{ℕ_discrete}
use mir.Syntax.{w64}
use mir.Val.{Fits}
use borrow.Author.Rules.{rules}
use borrow.Author.Tests.{eqb-false, eq-eqb}
use lib.Dec.{eqb}
use lib.ListN.{get_or, set, length, replicate}
use lib.Seq.{get_or-set_same, get_or-set_other}
use lib.Count.{ones}
use Rattle.catalogue.specs.Workers.{has, with_met, count, met_count}
use Rattle.laws.proofs.Bits.{bit, ones_count, count_same, count_add, add_fits, bit_same, bit_other, one_shl}

count_none : (f : ℕ → Bool) → count f 0 ≡ 0
unfolding count
count_none f = refl

-- a bit that is not 1 is 0
clear : (w b : ℕ) → eqb (bit w b) 1 ≡ false → bit w b ≡ 0
clear w b n = let h : bit w b ≡ 1 → ⊥ = eqb-false _ _ n in omega arith

-- the numbers from 64 q on, 64 of them, stand in word q
word_count : (met : List ℕ) (q : ℕ) → get_or met q 0 < 2 ^ 64 → ones (get_or met q 0) ≡ count (λ i. has met (q * 64 + i)) 64
unfolding has
word_count met q h =
    ones_count 64 (get_or met q 0) h
    ∙ count_same _ _ 64 (λ i l.
    let e : q ≡ (q * 64 + i) / 64 = omega arith in
    let f : i ≡ (q * 64 + i) % 64 = omega arith in
    ap₂ (λ (x y : ℕ). eqb (bit (get_or met x 0) y) 1) e f)

-- the four words have the 256 numbers
pub count_is :
    (met : List ℕ) →
    get_or met 0 0 < 2 ^ 64 → get_or met 1 0 < 2 ^ 64 → get_or met 2 0 < 2 ^ 64 → get_or met 3 0 < 2 ^ 64 →
    ones (get_or met 0 0) + ones (get_or met 1 0) + ones (get_or met 2 0) + ones (get_or met 3 0) ≡ met_count met
unfolding met_count
count_is met h0 h1 h2 h3 =
    let f = has met in
    omega (
      arith,
      word_count met 0 h0,
      word_count met 1 h1,
      word_count met 2 h2,
      word_count met 3 h3,
      count_none f,
      count_add f 0 64,
      count_add f 64 64,
      count_add f 128 64,
      count_add f 192 64,
    )

-- n is to be added: its bit is clear, so that the sum is the word with that bit set
module _ (met : List ℕ) (n : ℕ) (none : has met n ≡ false) where
  abbrev word : ℕ
  word = get_or met (n / 64) 0

  clear_bit : bit word (n % 64) ≡ 0
  unfolding has
  clear_bit = clear (get_or met (n / 64) 0) (n % 64) none

  -- the sum as the code has it, with the one shifted within its word
  pub sum_fits : Fits w64 (get_or met (n / 64) 0) → Fits w64 (get_or met (n / 64) 0 + 1 * 2 ^ (n % 64) % 2 ^ 64)
  sum_fits h =
      let e : 63 - n % 64 + (1 + n % 64) ≡ 64 = omega arith in
      rw (one_shl (n % 64) (omega arith))
      (record {
        fits =
            subst (λ (x : ℕ). word + 2 ^ (n % 64) < 2 ^ x) e
            (add_fits (63 - n % 64) word (n % 64) (subst (λ (x : ℕ). word < 2 ^ x) (sym e) h.fits) clear_bit);
      })

  module _ (l : n / 64 < length met) where
    -- n is in the set now
    pub with_met_same : has (with_met met n) n ≡ true
    unfolding has with_met
    with_met_same = rw (get_or-set_same met (n / 64) _ 0 l) (eq-eqb _ _ (bit_same word (n % 64) clear_bit))

    -- every other number is in it where it was; by whether it stands in the word that is changed
    pub with_met_other : (m : ℕ) → (m ≡ n → ⊥) → has (with_met met n) m ≡ has met m
    unfolding has with_met
    with_met_other m ne = by (ℕ_discrete (m / 64) (n / 64))
      where
        sum : ℕ
        sum = word + 2 ^ (n % 64)

        by : Dec (m / 64 ≡ n / 64) → has (set met (n / 64) sum) m ≡ has met m
        by (no h) = ap (λ (x : ℕ). eqb (bit x (m % 64)) 1) (get_or-set_other met (n / 64) (m / 64) sum 0 h)
        by (yes h) =
            ap (λ (x : ℕ). eqb (bit x (m % 64)) 1) (ap (λ (x : ℕ). get_or (set met (n / 64) sum) x 0) h ∙ get_or-set_same met (n / 64) sum 0 l)
            ∙ ap (λ (x : ℕ). eqb x 1) (bit_other word (n % 64) (m % 64) clear_bit (λ q. ne (omega arith)))
            ∙ ap (λ (x : ℕ). eqb (bit (get_or met x 0) (m % 64)) 1) (sym h)

-- the set as the code makes it
pub sum_sets : (met : List ℕ) (n : ℕ) → set met (n / 64) (get_or met (n / 64) 0 + 1 * 2 ^ (n % 64) % 2 ^ 64) ≡ with_met met n
unfolding with_met
sum_sets met n = rw (one_shl (n % 64) (omega arith)) refl

pub ruleset adding = (rules, sum_fits, sum_sets)

zeros : (k i : ℕ) → ◌≡◌ {A = ℕ} (get_or (replicate k 0) i 0) 0
zeros zero i = refl
zeros (suc k) zero = refl
zeros (suc k) (suc i) = zeros k i

-- a trial that has not begun has met nothing
pub none_met : (n : ℕ) → has (replicate 4 0) n ≡ false
unfolding has
none_met n = rw (zeros 4 (n / 64), zero-div (2 ^ (n % 64))) refl
