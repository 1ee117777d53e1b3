-- A number with a sign is the number at its position or, where a minus stands there, the opposite of the one after
-- it.
use Prim.Native.Nat.{ℕ, zero, suc, ◌+◌, ◌≤◌, ◌<◌}
use mathlib.Core.Bool.{Bool, true, false}
use mathlib.Core.List.{List, [], ◌∷◌, ◌++◌, append-nil}
use mathlib.Core.Option as maybe
use mathlib.Core.Path.{◌≡◌, refl, sym, ap, ◌∙◌}
use native.Mathlib.Omega.{arith}
use native.Mathlib.Numerals.{add-one}
use mir.Syntax.{w32}
use mir.Val.{SFits, of_z, to_z}
use mir.Facts.{to_z-of_z, to_z_pos}
use lib.IntN.{ℤ, pos, neg_ℤ, ◌-ℤ◌, +ℤ_idl}
use lib.Dec.{eqb}
use lib.ListN.{length, get_or, drop, drop_of_length-le}
use lib.Seq.{drop-cons}
use borrow.Author.Tests.{eq-eqb, ne_eqb, leb-true}
use Rattle.catalogue.specs.Tests.{pick, given}
use Rattle.catalogue.specs.Script.{natural, signed, negated}
use Rattle.laws.proofs.Picks.{clash, pick_both}
use Rattle.digits.specs.Digits.{digit, digits_of, signed_of, most_number, number_fits, signed_fits, found, digits_at, signed_at}
use Rattle.digits.specs.declared.numbers.Parsed.{Parsed}
use Rattle.std.specs.Prelude.{Option, None, Some}

-- ---- a number of 31 bits as a signed one

module _ (n : ℕ) (h : n ≤ most_number) where
  pub plain_fits : SFits w32 (pos n)
  plain_fits = record { sfits = omega arith }

  pub plain_is : to_z w32 n ≡ pos n
  plain_is = to_z_pos w32 (omega arith)

  negative_fits : (m : ℕ) → m ≤ most_number → SFits w32 (neg_ℤ (pos m))
  negative_fits zero l = record { sfits = omega arith }
  negative_fits (suc m) l = record { sfits = omega arith }

  turned : pos 0 -ℤ to_z w32 n ≡ neg_ℤ (pos n)
  turned = ap (λ z. pos 0 -ℤ z) plain_is ∙ +ℤ_idl (neg_ℤ (pos n))

  pub opposite_fits : SFits w32 (pos 0 -ℤ to_z w32 n)
  opposite_fits = rw turned (negative_fits n h)

  pub opposite_is : to_z w32 (of_z w32 (pos 0 -ℤ to_z w32 n)) ≡ neg_ℤ (pos n)
  opposite_is = to_z-of_z opposite_fits ∙ turned

-- ---- the piece with its sign

module _ (b : ℕ) (bs : List ℕ) where
  pub cut_minus : b ≡ 45 → signed_of (b ∷ bs) ≡ b ∷ digits_of bs
  unfolding signed_of
  cut_minus e = rw (eq-eqb b 45 e)

  pub signed_minus : b ≡ 45 → signed (b ∷ bs) ≡ given (natural bs) maybe.none negated
  signed_minus e = rw (eq-eqb b 45 e)

  module _ (n : b ≡ 45 → ⊥) where
    pub cut_plain : signed_of (b ∷ bs) ≡ digits_of (b ∷ bs)
    unfolding signed_of
    cut_plain = rw (ne_eqb b 45 n)

    signed_plain : signed (b ∷ bs) ≡ given (natural (b ∷ bs)) maybe.none (λ m. maybe.some (pos m))
    signed_plain = rw (ne_eqb b 45 n)

-- digits and what follows them, where no minus stands before
pub plain_piece : (c : ℕ) (cs : List ℕ) → (c ≡ 45 → ⊥) → (v : List ℕ) → ((b : ℕ) (bs : List ℕ) → v ≡ b ∷ bs → digit c ≡ false → b ≡ c)
    → signed (digits_of (c ∷ cs) ++ v) ≡ given (natural (digits_of (c ∷ cs) ++ v)) maybe.none (λ m. maybe.some (pos m))
unfolding digits_of
plain_piece c cs n v first =
    pick_both (λ w. signed (w ++ v) ≡ given (natural (w ++ v)) maybe.none (λ m. maybe.some (pos m))) (digit c) (c ∷ digits_of cs) []
    (λ t. signed_plain c (digits_of cs ++ v) n) (λ t. by v (λ b bs q. first b bs q t))
  where
    by : (v : List ℕ) → ((b : ℕ) (bs : List ℕ) → v ≡ b ∷ bs → b ≡ c) → signed v ≡ given (natural v) maybe.none (λ m. maybe.some (pos m))
    by [] f = refl
    by (b ∷ bs) f = signed_plain b bs (λ q. n (sym (f b bs refl) ∙ q))

-- ---- a number taken apart

abbrev plain : Option (Parsed ℕ) → Option (Parsed ℤ)
plain None = None
plain (Some p) = found (pos p.value) p.next

abbrev negative : Option (Parsed ℕ) → Option (Parsed ℤ)
negative None = None
negative (Some p) = pick (eqb p.value 0) None (found (neg_ℤ (pos p.value)) p.next)

plain_of : (next : ℕ) (o : maybe.Option ℕ)
    → given (given o maybe.none (λ n. maybe.some (pos n))) None (λ k. pick (signed_fits k) (found k next) None) ≡ plain (given o None (λ n. pick (number_fits n) (found n next) None))
plain_of next maybe.none = refl
plain_of next (maybe.some n) = elim (number_fits n) as (λ t. pick t (found (pos n) next) None ≡ plain (pick t (found n next) None)) [ true ↦ refl | false ↦ refl ]

negative_of : (next : ℕ) (o : maybe.Option ℕ)
    → given (given o maybe.none negated) None (λ k. pick (signed_fits k) (found k next) None) ≡ negative (given o None (λ n. pick (number_fits n) (found n next) None))
negative_of next maybe.none = refl
negative_of next (maybe.some zero) = refl
negative_of next (maybe.some (suc n)) = by (number_fits (suc n))
  where
    by : (t : Bool) → pick t (found (neg_ℤ (pos (suc n))) next) None ≡ negative (pick t (found (suc n) next) None)
    by true = rw (ne_eqb (suc n) 0 (omega arith))
    by false = refl

-- ---- the number at a position

pub digits_small : (text : List ℕ) (at : ℕ) (r : Option (Parsed ℕ)) → r ≡ digits_at text at → (p : Parsed ℕ) → r ≡ Some p → p.value ≤ most_number
unfolding digits_at
digits_small text at r e p q = by (natural (digits_of (drop at text))) (sym e ∙ q)
  where
    fits : (m end : ℕ) (t : Bool) → number_fits m ≡ t → pick t (found m end) None ≡ Some p → p.value ≤ most_number
    fits m end true t e = let s : found m end ≡ Some p = e in let i : m ≡ p.value = cc in omega (arith, leb-true m most_number t)
    fits m end false t e = clash (cc)

    by : (o : maybe.Option ℕ) → given o None (λ m. pick (number_fits m) (found m (at + length (digits_of (drop at text)))) None) ≡ Some p → p.value ≤ most_number
    by maybe.none e = clash (cc)
    by (maybe.some m) e = fits m (at + length (digits_of (drop at text))) (number_fits m) refl e

module _ (text : List ℕ) (at : ℕ) where
  pub signed_none : length text ≤ at → None ≡ signed_at text at
  unfolding signed_at signed_of
  signed_none h = rw (drop_of_length-le text {i = at} h)

  module _ (h : at < length text) (r : Option (Parsed ℕ)) where
    module _ (b : get_or text at 0 ≡ 45) (e : r ≡ digits_at text (at + 1)) where
      minus_is : negative r ≡ signed_at text at
      unfolding digits_at signed_at
      minus_is =
          let s : at + suc (length (digits_of (drop (suc at) text))) ≡ suc at + length (digits_of (drop (suc at) text)) = omega arith in
          rw (e, add-one, drop-cons text at 0 h, cut_minus (get_or text at 0) (drop (suc at) text) b, signed_minus (get_or text at 0) (digits_of (drop (suc at) text)) b, s)
          (sym (negative_of (suc at + length (digits_of (drop (suc at) text))) (natural (digits_of (drop (suc at) text)))))

      pub minus_none : (s : Option (Parsed ℤ)) → r ≡ None → s ≡ None → s ≡ signed_at text at
      minus_none s q d = d ∙ (rw q at minus_is)

      pub minus_zero : (p : Parsed ℕ) → r ≡ Some p → p.value ≡ 0 → None ≡ signed_at text at
      minus_zero p q z = rw (q, eq-eqb p.value 0 z) at minus_is

      pub minus_on : (p : Parsed ℕ) (k : ℤ) → r ≡ Some p → (p.value ≡ 0 → ⊥) → k ≡ neg_ℤ (pos p.value) → found k p.next ≡ signed_at text at
      minus_on p k q z s = rw s (rw (q, ne_eqb p.value 0 z) at minus_is)

    module _ (b : get_or text at 0 ≡ 45 → ⊥) (e : r ≡ digits_at text at) where
      plain_at : plain r ≡ signed_at text at
      unfolding digits_at signed_at
      plain_at =
          let w = digits_of (get_or text at 0 ∷ drop (suc at) text) in
          let p : signed w ≡ given (natural w) maybe.none (λ m. maybe.some (pos m)) = rw append-nil at (plain_piece (get_or text at 0) (drop (suc at) text) b [] (λ c cs q t. clash (cc))) in
          rw (e, drop-cons text at 0 h, cut_plain (get_or text at 0) (drop (suc at) text) b, p) (sym (plain_of (at + length w) (natural w)))

      pub plain_none : (s : Option (Parsed ℤ)) → r ≡ None → s ≡ None → s ≡ signed_at text at
      plain_none s q d = d ∙ (rw q at plain_at)

      pub plain_on : (p : Parsed ℕ) → r ≡ Some p → found (to_z w32 p.value) p.next ≡ signed_at text at
      plain_on p q = rw (plain_is p.value (digits_small text at r e p q)) (rw q at plain_at)

pub ruleset signs = (digits_small, plain_fits, plain_is, opposite_fits, opposite_is, signed_none, minus_none, minus_zero, minus_on, plain_none, plain_on, tt)
