-- The new number of a vertex in a sweep: its place in the list.
use Prim.Native.Nat.{ℕ, zero, suc, ◌+◌, ◌≤◌, ◌<◌}
use mathlib.Core.Bool.{Bool, true, false}
use mathlib.Core.List.{List, [], ◌∷◌, map}
use mathlib.Core.Path.{◌≡◌, refl, sym, ap, ◌∙◌}
use native.Mathlib.Omega.{arith}
use lib.ListN.{length, get_or}
use lib.Dec.{eqb}
use borrow.Author.Tests.{eqb-true, eq-eqb, ne_eqb}
use Rattle.catalogue.specs.Tests.{pick, member}
use Rattle.catalogue.specs.Sweep.{position}
use Rattle.laws.proofs.Picks.{clash}
use Rattle.laws.proofs.Members.{chosen, all_at}
use Rattle.laws.proofs.Distinct.{Distinct}

module _ (y : ℕ) where
  pub goes : (x : ℕ) (l : List ℕ) (from : ℕ) → position y (x ∷ l) from ≡ pick (eqb y x) from (position y l (suc from))
  unfolding position
  goes x l from = chosen (eqb y x) from (position y l (suc from))

  later : (l : List ℕ) (from : ℕ) → position y l (suc from) ≡ suc (position y l from)
  unfolding position
  later [] from = refl
  later (x ∷ l) from = goes x l (suc from) ∙ by (eqb y x) (later l (suc from)) ∙ ap suc (sym (goes x l from))
    where
      by : (t : Bool) → position y l (suc (suc from)) ≡ suc (position y l (suc from))
          → pick t (suc from) (position y l (suc (suc from))) ≡ suc (pick t from (position y l (suc from)))
      by true e = refl
      by false e = e

  pub place_from : (l : List ℕ) (from : ℕ) → from ≤ position y l from
  unfolding position
  place_from [] from = omega arith
  place_from (x ∷ l) from = rw (goes x l from) (by (eqb y x) (place_from l (suc from)))
    where
      by : (t : Bool) → suc from ≤ position y l (suc from) → from ≤ pick t from (position y l (suc from))
      by true h = omega arith
      by false h = omega arith

  pub place_below : (l : List ℕ) (from : ℕ) → member y l ≡ true → position y l from < from + length l
  unfolding member
  place_below [] from m = clash (cc)
  place_below (x ∷ l) from m = rw (goes x l from) (by (eqb y x) m (place_below l (suc from)))
    where
      by : (t : Bool) → pick t true (member y l) ≡ true → (member y l ≡ true → position y l (suc from) < suc from + length l)
          → pick t from (position y l (suc from)) < from + suc (length l)
      by true m h = omega arith
      by false m h = let b = h m in omega arith

  pub place_reads : {A : Type 0} (f : ℕ → A) (d : A) (l : List ℕ) → member y l ≡ true → get_or (map f l) (position y l 0) d ≡ f y
  unfolding member
  place_reads f d [] m = clash (cc)
  place_reads f d (x ∷ l) m = ap (λ p. get_or (map f (x ∷ l)) p d) (goes x l 0) ∙ by (eqb y x) refl m (place_reads f d l)
    where
      by : (t : Bool) → eqb y x ≡ t → pick t true (member y l) ≡ true → (member y l ≡ true → get_or (map f l) (position y l 0) d ≡ f y)
          → get_or (map f (x ∷ l)) (pick t 0 (position y l 1)) d ≡ f y
      by true e m h = ap f (sym (eqb-true y x e))
      by false e m h = ap (λ p. get_or (map f (x ∷ l)) p d) (later l 0) ∙ h m

  -- from 2 on, as a sweep counts them
  pub place_two : (l : List ℕ) → position y l 2 ≡ suc (suc (position y l 0))
  place_two l = later l 1 ∙ ap suc (later l 0)

-- the place of what stands at one
pub place_nth : (l : List ℕ) (from j : ℕ) → Distinct l → j < length l → position (get_or l j 0) l from ≡ from + j
place_nth [] from j d b = absurd (omega arith)
place_nth (x ∷ l) from zero d b = goes x x l from ∙ rw (eq-eqb x x refl) (omega arith)
place_nth (x ∷ l) from (suc j) d b =
    let y : ℕ = get_or l j 0 in
    let other : y ≡ x → ⊥ = all_at (λ z. z ≡ x → ⊥) 0 l j d.0 (omega arith) in
    goes y x l from ∙ rw (ne_eqb y x other) (place_nth l (suc from) j d.1 (omega arith) ∙ (let e : suc from + j ≡ from + suc j = omega arith in e))
