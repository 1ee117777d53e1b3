-- The digits that a text begins with, and their value: after a digit the same is asked of the rest of the text.
use Prim.Native.Nat.{ℕ, ◌+◌, ◌*◌, ◌-◌, ◌≤◌, ◌<◌}
use mathlib.Core.Bool.{Bool, true, false}
use mathlib.Core.List.{List, [], ◌∷◌, ◌++◌}
use mathlib.Core.Logic.{◌⊎◌, inl, inr}
use mathlib.Core.Option.{none, some}
use mathlib.Core.Option as maybe
use Rattle.std.specs.Prelude.{Option, None, Some}
use mathlib.Core.Path.{◌≡◌, refl, subst}
use native.Mathlib.Omega.{arith}
use native.Mathlib.Numerals.{add-one}
use lib.Dec.{leb, eqb}
use lib.ListN.{length, get_or, drop, drop_of_length-le}
use lib.Seq.{drop-cons}
use borrow.Author.Tests.{le-leb, lt-leb, lt-ltb, le-ltb}
use Rattle.catalogue.specs.Tests.{pick}
use Rattle.catalogue.specs.Script.{value, natural}
use Rattle.laws.proofs.Cases.{lt_or}
use Rattle.laws.proofs.Ways.{on_true, on_false}
use Rattle.laws.proofs.Picks.{clash, pick_both}
use Rattle.digits.specs.Digits.{digit, digits_of, digit_at}

pub none_or : {A : Type 0} (t : Bool) (o : maybe.Option A) → o ≡ none → pick t o none ≡ none
none_or true o e = e
none_or false o e = refl

-- ---- a digit or none

pub digit_or : (b : ℕ) → ((48 ≤ b) × (b ≤ 57)) ⊎ (digit b ≡ false)
digit_or b =
    elim (lt_or b 48) [
      | inl l ↦ inr (rw (lt-leb 48 b l))
      | inr l ↦ elim (lt_or 57 b) [ inl u ↦ inr (rw (le-leb 48 b l, lt-leb b 57 u)) | inr u ↦ inl (l, u) ]
    ]

-- a digit stands at a position, and the digits of the text go on after it
pub record There (text : List ℕ) (at d : ℕ) : Type 0 where
  pub within : at < length text
  pub small : d < 10
  pub byte : 48 + d ≡ get_or text at 0
  pub rest : digits_of (drop at text) ≡ (48 + d) ∷ digits_of (drop (at + 1) text)

none_of : (b : ℕ) → digit b ≡ false → ◌≡◌ {A = Option ℕ} (pick (leb 48 b) (pick (leb b 57) (Some (b - 48)) None) None) None
none_of b e = by (leb 48 b) (leb b 57) e
  where
    by : (l u : Bool) → pick l u false ≡ false → ◌≡◌ {A = Option ℕ} (pick l (pick u (Some (b - 48)) None) None) None
    by true true e = clash (cc)
    by true false e = refl
    by false u e = refl

module _ (text : List ℕ) (at : ℕ) where
  pub there : ((d : ℕ) × ((digit_at text at ≡ Some d) × There text at d)) ⊎ ((digit_at text at ≡ None) × (digits_of (drop at text) ≡ []))
  unfolding digit_at digits_of
  there =
      elim (lt_or at (length text)) [
        | inl l ↦ elim (digit_or (get_or text at 0)) [
          | inl d ↦
              let f : 48 + (get_or text at 0 - 48) ≡ get_or text at 0 = omega (arith, d.0) in
              inl (
                get_or text at 0 - 48,
                (
                  rw (lt-ltb at (length text) l, le-leb 48 (get_or text at 0) d.0, le-leb (get_or text at 0) 57 d.1),
                  record {
                    within = l;
                    small = omega (arith, d.1);
                    byte = f;
                    rest = rw f (rw (add-one, drop-cons text at 0 l, digits_of, le-leb 48 (get_or text at 0) d.0, le-leb (get_or text at 0) 57 d.1));
                  },
                ),
              )
          | inr d ↦ inr (rw (lt-ltb at (length text) l) (none_of (get_or text at 0) d), rw (drop-cons text at 0 l, digits_of, d))
        ]
        | inr l ↦ inr (rw (le-ltb at (length text) l), rw (drop_of_length-le text {i = at} l))
      ]

  pub digits_end : digit_at text at ≡ None → digits_of (drop at text) ≡ []
  digits_end h = elim there [ inl t ↦ clash (cc (t.1.0)) | inr e ↦ e.1 ]

  pub digits_there : (d : ℕ) → digit_at text at ≡ Some d → There text at d
  digits_there d h =
      elim there [
        | inl t ↦ let s : t.0 ≡ d = cc (t.1.0) in subst (There text at) s t.1.1
        | inr e ↦ clash (cc (e.0))
      ]

-- ---- values

pub value_digit : (sum d : ℕ) (bs : List ℕ) → d < 10 → value sum ((48 + d) ∷ bs) ≡ value (10 * sum + d) bs
unfolding value
value_digit sum d bs h =
    let e : 48 + d - 48 ≡ d = omega arith in
    rw (value, le-leb 48 (48 + d) (omega arith), le-leb (48 + d) 57 (omega arith), e)

pub value_end : (sum : ℕ) → value sum [] ≡ some sum
unfolding value
value_end sum = refl

-- digits only raise it
pub value_above : (bs : List ℕ) (sum n : ℕ) → value sum bs ≡ some n → sum ≤ n
unfolding value
value_above [] sum n e = let q : sum ≡ n = cc in omega arith
value_above (b ∷ bs) sum n e =
    (pick_both (λ o. o ≡ some n → sum ≤ n) (leb 48 b) (pick (leb b 57) (value (10 * sum + (b - 48)) bs) none) none
    (λ l. pick_both (λ o. o ≡ some n → sum ≤ n) (leb b 57) (value (10 * sum + (b - 48)) bs) none
    (λ u q. omega (arith, value_above bs (10 * sum + (b - 48)) n q)) (λ u q. clash (cc)))
    (λ l q. clash (cc))) e

-- what is no digit has no value, wherever it stands
value_not : (w bs : List ℕ) (b sum : ℕ) → digit b ≡ false → value sum (w ++ (b ∷ bs)) ≡ none
unfolding value
value_not [] bs b sum e = by (leb 48 b) (leb b 57) e
  where
    by : (l u : Bool) → pick l u false ≡ false → pick l (pick u (value (10 * sum + (b - 48)) bs) none) none ≡ none
    by true true e = clash (cc)
    by true false e = refl
    by false u e = refl
value_not (c ∷ w) bs b sum e =
    none_or (leb 48 c) (pick (leb c 57) (value (10 * sum + (c - 48)) (w ++ (b ∷ bs))) none)
    (none_or (leb c 57) (value (10 * sum + (c - 48)) (w ++ (b ∷ bs))) (value_not w bs b (10 * sum + (c - 48)) e))

-- a number has the value of its digits, or none
pub natural_or : (P : maybe.Option ℕ → Type 0) (w : List ℕ) → P none → P (value 0 w) → P (natural w)
natural_or P [] n v = n
natural_or P (b ∷ []) n v = v
natural_or P (b ∷ (c ∷ cs)) n v = elim (eqb b 48) as (λ t. P (pick t none (value 0 (b ∷ (c ∷ cs))))) [ true ↦ n | false ↦ v ]

-- no number has such a byte
pub natural_not : (w bs : List ℕ) (b : ℕ) → digit b ≡ false → natural (w ++ (b ∷ bs)) ≡ none
natural_not w bs b e = natural_or (λ o. o ≡ none) (w ++ (b ∷ bs)) refl (value_not w bs b 0 e)

-- the tests of one byte
pub ruleset digit_cases = (refl, on_true, on_false, lt-ltb, le-ltb, le-leb, lt-leb)
