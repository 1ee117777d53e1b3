-- The table that the vertex walk fills has under each old number the place in the list, counted from 2.
use Prim.Native.Nat.{ℕ, suc, ◌+◌, ◌<◌, ◌≤◌}
use mathlib.Core.List.{List, [], ◌∷◌}
use mathlib.Core.Path.{◌≡◌, refl, sym, ap, subst, ◌∙◌}
use native.Mathlib.Omega.{arith}
use borrow.Author.Tests.{eq-eqb, ne_eqb}
use lib.ListN.{length, set, length-set}
use lib.Seq.{get_or-set_same, get_or-set_other}
use Rattle.catalogue.specs.Sweep.{position}
use Rattle.laws.proofs.Members.{All, all_each, all_join}
use Rattle.laws.proofs.Distinct.{Distinct}
use Rattle.resting.proofs.Rows.{Numbered}
use Rattle.resting.proofs.Places.{goes}
use Rattle.sweep.specs.Built.{numbered, number_of}

-- a number that is not in the list keeps what stood there
unnumbered : (l : List ℕ) (n : ℕ) (numbers : List ℕ) (y : ℕ) → All (λ x. x ≡ y → ⊥) l → number_of (numbered l n numbers) y ≡ number_of numbers y
unfolding numbered
unnumbered [] n numbers y h = refl
unnumbered (x ∷ l) n numbers y h =
    unnumbered l (n + 1) (set numbers x (2 + n)) y h.1 ∙ get_or-set_other numbers x y (2 + n) 0 (λ e. h.0 (sym e))

-- the first of the list
first_number : (x : ℕ) (l : List ℕ) (n : ℕ) (numbers : List ℕ) → All (λ y. y ≡ x → ⊥) l → x < length numbers → number_of (numbered (x ∷ l) n numbers) x ≡ 2 + n
unfolding numbered
first_number x l n numbers h low = unnumbered l (n + 1) (set numbers x (2 + n)) x h ∙ get_or-set_same numbers x (2 + n) 0 low

next_two : (n : ℕ) → 2 + (n + 1) ≡ suc (2 + n)
next_two n = omega arith

module _ (size : ℕ) where
  abbrev In : List ℕ → Type 0
  In = All (λ x. (2 ≤ x) × (x < size))

  pub counted : (l : List ℕ) (n : ℕ) (numbers : List ℕ) → Distinct l → In l → length numbers ≡ size
      → Numbered (λ i x. number_of (numbered l n numbers) x ≡ i) (2 + n) l
  unfolding numbered
  counted [] n numbers d f e = tt
  counted (x ∷ l) n numbers d f e =
      let put = set numbers x (2 + n) in (
        first_number x l n numbers d.0 (omega (arith, f.0.1)),
        subst (λ b. Numbered (λ i y. number_of (numbered l (n + 1) put) y ≡ i) b l) (next_two n)
            (counted l (n + 1) put d.1 f.1 (length-set numbers x (2 + n) ∙ e)),
      )

  pub placed : (l : List ℕ) (n : ℕ) (numbers : List ℕ) → Distinct l → In l → length numbers ≡ size
      → All (λ y. number_of (numbered l n numbers) y ≡ position y l (2 + n)) l
  unfolding numbered
  placed [] n numbers d f e = tt
  placed (x ∷ l) n numbers d f e =
      let put = set numbers x (2 + n) in (
        first_number x l n numbers d.0 (omega (arith, f.0.1)) ∙ sym (goes x x l (2 + n) ∙ rw (eq-eqb x x refl) refl),
        all_each (λ y. (y ≡ x → ⊥) × (number_of (numbered l (n + 1) put) y ≡ position y l (2 + (n + 1)))) (λ y. number_of (numbered l (n + 1) put) y ≡ position y (x ∷ l) (2 + n))
            (λ y h. h.1 ∙ ap (position y l) (next_two n) ∙ sym (goes y x l (2 + n) ∙ rw (ne_eqb y x h.0) refl)) l
            (all_join (λ y. y ≡ x → ⊥) (λ y. number_of (numbered l (n + 1) put) y ≡ position y l (2 + (n + 1))) l d.0
            (placed l (n + 1) put d.1 f.1 (length-set numbers x (2 + n) ∙ e))),
      )
