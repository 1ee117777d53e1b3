-- A loop that stores the last digit of what is left before those that it has keeps the number's digits.
-- Ten places are enough for 32 bits.
use Prim.Native.Nat.{ℕ, zero, suc, ◌+◌, ◌-◌, ◌^◌, ◌/◌, ◌%◌, ◌≤◌, ◌<◌}
use mathlib.Core.List.{List, [], ◌∷◌, ◌++◌, append_assoc, append-nil}
use mathlib.Core.Path.{◌≡◌, refl, sym, ap, ◌∙◌}
use native.Mathlib.Omega.{arith}
use lib.ListN.{length, set, take, drop, length-append, length-set, length-drop, drop_of_length-le}
use lib.Seq.{take_all}
use Rattle.catalogue.specs.Text.{decimal}
use Rattle.text.specs.Puts.{put_at}
use Rattle.text.proofs.Decimals.{decimal_one, decimal_more, length_some, length_decimal}

drop_stored : (s : List ℕ) (i d : ℕ) → i < length s → drop i (set s i d) ≡ d ∷ drop (suc i) s
drop_stored [] i d h = absurd (omega arith)
drop_stored (x ∷ s) zero d h = refl
drop_stored (x ∷ s) (suc i) d h = drop_stored s i d (omega arith)

-- the digits of what is left of n, and then those from the place `first` on, are the digits of n
abbrev pub Spelling : ℕ → List ℕ → ℕ → ℕ → Type 0
Spelling n s first rest = (decimal n ≡ decimal rest ++ drop first s) × (length s ≡ 10)

module _ (n : ℕ) (s : List ℕ) where
  pub spelling_none : length s ≡ 10 → Spelling n s 10 n
  spelling_none h = (rw (drop_of_length-le s {i = 10} (omega arith), append-nil), h)

  module _ (first rest : ℕ) (k : Spelling n s first rest) where
    -- as long as there are ten digits at most, a place is left for each
    pub spelling_room : n < 2 ^ 32 → first ≤ 0 → s ≡ decimal n
    spelling_room fits none =
        absurd (omega (arith, ap length k.0, length-append (decimal rest) (drop first s), length-drop first s, length_decimal n fits, length_some rest))

    module _ (some : 0 < first) (within : first ≤ 10) where
      stored : (d : ℕ) → drop (first - 1) (set s (first - 1) d) ≡ d ∷ drop first s
      stored d = let here : suc (first - 1) ≡ first = omega arith in drop_stored s (first - 1) d (omega arith) ∙ ap (λ i. d ∷ drop i s) here

      pub spelling_more : (rest / 10 ≡ 0 → ⊥) → Spelling n (set s (first - 1) (48 + rest % 10)) (first - 1) (rest / 10)
      spelling_more more =
          let many : 10 ≤ rest = omega arith in
          (rw (stored (48 + rest % 10), k.0, decimal_more rest many, append_assoc), length-set s (first - 1) (48 + rest % 10) ∙ k.1)

      pub spelling_all : rest / 10 ≡ 0 → drop (first - 1) (set s (first - 1) (48 + rest % 10)) ≡ decimal n
      spelling_all one =
          let last : rest % 10 ≡ rest = omega arith in
          let few : rest < 10 = omega arith in
          rw (k.0, decimal_one rest few, last) (stored (48 + rest))

-- what a caller has of ten places whose end spells a number: where it begins, and that end as a part
module _ (s : List ℕ) (n first : ℕ) (spelt : drop first s ≡ decimal n) (ten : length s ≡ 10) where
  pub spelt_within : first ≤ 10
  spelt_within = omega (arith, sym (ap length spelt) ∙ length-drop first s, length_some n)

  part_is : take (10 - first) (drop first s) ≡ decimal n
  part_is = take_all (10 - first) (drop first s) (omega (arith, length-drop first s)) ∙ spelt

  pub spelt_put : (l m : List ℕ) (at : ℕ) → m ≡ put_at l at (take (10 - first) (drop first s)) → m ≡ put_at l at (decimal n)
  spelt_put l m at e = e ∙ ap (put_at l at) part_is

  pub spelt_end : (at end : ℕ) → end ≡ at + length (take (10 - first) (drop first s)) → end ≡ at + length (decimal n)
  spelt_end at end e = e ∙ ap (λ bytes. at + length bytes) part_is

pub ruleset spelt = (spelt_within, spelt_put, spelt_end)

pub ruleset spellings = (spelling_none, spelling_room, spelling_more, spelling_all)
