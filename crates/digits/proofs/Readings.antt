-- The loop over the digits: those that were read have a value, and the number goes on with the digits that are left.
use Prim.Native.Nat.{ℕ, ◌+◌, ◌*◌, ◌-◌, ◌≤◌, ◌<◌}
use mathlib.Core.List.{List, [], ◌∷◌}
use mathlib.Core.Option as maybe
use mathlib.Core.Logic.{◌⊎◌, inl, inr}
use mathlib.Core.Path.{◌≡◌, refl, sym, ap, ◌∙◌}
use native.Mathlib.Omega.{arith}
use lib.Dec.{lit≤}
use lib.ListN.{length, get_or, drop}
use borrow.Author.Tests.{le-leb, lt-leb, ne_eqb}
use Rattle.catalogue.specs.Tests.{pick, given}
use Rattle.catalogue.specs.Script.{value, natural}
use Rattle.digits.specs.Digits.{piece_in, digits_of, most_number, number_fits, digits_at, digit_at}
use Rattle.std.specs.Prelude.{Option, None, Some}
use Rattle.digits.specs.declared.numbers.Parsed.{Parsed}
use Rattle.digits.proofs.Values.{There, there, digits_end, digits_there, value_digit, value_end, value_above, natural_or}

-- the digits from `at` up to `place` were read
pub record Reading (text : List ℕ) (at place sum : ℕ) : Type 0 where
  pub ahead : at ≤ place
  pub inside : at < place → place ≤ length text
  pub small : sum ≤ most_number
  pub same : value 0 (digits_of (drop at text)) ≡ value sum (digits_of (drop place text))
  pub long : length (digits_of (drop at text)) ≡ place - at + length (digits_of (drop place text))

module _ (text : List ℕ) (at : ℕ) where
  pub reading_none : Reading text at at 0
  reading_none = record { ahead = omega arith; inside = λ h. absurd (omega arith); small = omega arith; same = refl; long = omega arith }

  too_great : (sum : ℕ) (bs : List ℕ) → most_number < sum → value 0 (digits_of (drop at text)) ≡ value sum bs → None ≡ digits_at text at
  unfolding digits_at
  too_great sum bs g e =
      natural_or (λ o. ◌≡◌ {A = Option (Parsed ℕ)} None (given o None (λ n. pick (number_fits n) (Some (record { value = n; next = at + length (digits_of (drop at text)) })) None))) (digits_of (drop at text))
      refl (by (value 0 (digits_of (drop at text))) e)
    where
      by : (o : maybe.Option ℕ) → o ≡ value sum bs → ◌≡◌ {A = Option (Parsed ℕ)} None (given o None (λ n. pick (number_fits n) (Some (record { value = n; next = at + length (digits_of (drop at text)) })) None))
      by maybe.none q = refl
      by (maybe.some n) q = rw (lt-leb n most_number (omega (arith, value_above bs sum n (sym q))))

  module _ (place sum : ℕ) (r : Reading text at place sum) (found : Option ℕ) (e : found ≡ digit_at text place) where
    module _ (digit : ℕ) (q : found ≡ Some digit) where
      next : There text place digit
      next = digits_there text place digit (sym e ∙ q)

      pub reading_within : place < length text
      reading_within = next.within

      pub reading_small : digit < 10
      reading_small = next.small

      valued : value 0 (digits_of (drop at text)) ≡ value (10 * sum + digit) (digits_of (drop (place + 1) text))
      valued = r.same ∙ ap (value sum) next.rest ∙ value_digit sum digit (digits_of (drop (place + 1) text)) next.small

      -- whatever the code compares with, as long as it is no less
      pub reading_great : (limit : ℕ) → limit < 10 * sum + digit → most_number ≤ limit → None ≡ digits_at text at
      reading_great limit g m = too_great (10 * sum + digit) (digits_of (drop (place + 1) text)) (omega arith) valued

      pub reading_more : 10 * sum + digit ≤ most_number → Reading text at (place + 1) (10 * sum + digit)
      reading_more l = record {
        ahead = omega (arith, r.ahead);
        inside = λ h. omega (arith, next.within);
        small = l;
        same = valued;
        long = omega (arith, r.long, r.ahead, ap length next.rest);
      }

    -- no digit follows those that were read
    module _ (h : found ≡ None) where
      ended : digits_of (drop place text) ≡ []
      ended = digits_end text place (sym e ∙ h)

      long : length (digits_of (drop at text)) ≡ place - at
      long = r.long ∙ rw ended (omega arith)

      valued_so : value 0 (digits_of (drop at text)) ≡ maybe.some sum
      valued_so = r.same ∙ rw ended (value_end sum)

      pub reading_empty : place - at ≡ 0 → None ≡ digits_at text at
      unfolding digits_at
      reading_empty z = by (digits_of (drop at text)) (long ∙ z)
        where
          by : (w : List ℕ) → length w ≡ 0 → None ≡ piece_in natural number_fits at w
          by [] l = refl
          by (b ∷ bs) l = absurd (omega arith)

      module _ (n : place - at ≡ 0 → ⊥) where
        pub reading_first : at < length text
        reading_first = omega (arith, r.ahead, r.inside (omega (arith, r.ahead, n)))

        abbrev first : ℕ
        first = get_or text at 0

        begins : digits_of (drop at text) ≡ first ∷ digits_of (drop (at + 1) text)
        begins =
            elim (there text at) [
              | inl t ↦ rw (← t.1.1.byte) t.1.1.rest
              | inr t ↦ absurd (n (sym long ∙ ap length t.1))
            ]

        judged : (o : maybe.Option ℕ) → ((bs : List ℕ) → length (first ∷ bs) ≡ place - at → value 0 (first ∷ bs) ≡ maybe.some sum → natural (first ∷ bs) ≡ o)
            → natural (digits_of (drop at text)) ≡ o
        judged o same = rw begins (same (digits_of (drop (at + 1) text)) (rw begins at long) (rw begins at valued_so))

        pub reading_zeros : first ≡ 48 → 1 < place - at → None ≡ digits_at text at
        unfolding digits_at
        reading_zeros z m = rw (judged maybe.none by)
          where
            by : (bs : List ℕ) → length (first ∷ bs) ≡ place - at → value 0 (first ∷ bs) ≡ maybe.some sum → natural (first ∷ bs) ≡ maybe.none
            by [] l v = absurd (omega arith)
            by (c ∷ cs) l v = rw z

        number : (first ≡ 48 → place - at ≤ 1) → Some (record { value = sum; next = place }) ≡ digits_at text at
        unfolding digits_at
        number lone =
            let e : at + (place - at) ≡ place = omega (arith, r.ahead) in
            rw (judged (maybe.some sum) by, le-leb sum most_number r.small, long, e)
          where
            by : (bs : List ℕ) → length (first ∷ bs) ≡ place - at → value 0 (first ∷ bs) ≡ maybe.some sum → natural (first ∷ bs) ≡ maybe.some sum
            by [] l v = v
            by (c ∷ cs) l v = rw (ne_eqb first 48 (λ q. omega (arith, lone q))) v

        pub reading_is : ((first ≡ 48) × (place - at ≤ 1)) ⊎ (first ≡ 48 → ⊥) → Some (record { value = sum; next = place }) ≡ digits_at text at
        reading_is (inl l) = number (λ q. l.1)
        reading_is (inr z) = number (λ q. absurd (z q))

pub ruleset readings = (refl, reading_none, reading_within, reading_small, reading_great, reading_more, reading_empty, reading_first, reading_zeros, reading_is, lit≤, tt)
