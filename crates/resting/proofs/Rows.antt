-- Numbers in a row: what stands at each, a walk over them, and a list whose members they number.
use Prim.Native.Nat.{ℕ, zero, suc, ◌+◌, ◌-◌, ◌≤◌, ◌<◌}
use mathlib.Core.Bool.{true}
use mathlib.Core.List.{List, [], ◌∷◌, ◌++◌, map}
use mathlib.Core.Path.{◌≡◌, refl, ap, ap₂, ◌∙◌}
use native.Mathlib.Omega.{arith}
use lib.ListN.{length, get_or}
use lib.Dec.{eqb, ltb}
use borrow.Author.Tests.{eqb-false, lt-ltb, le-ltb}
use Rattle.catalogue.specs.Tests.{pick, member, table_from}
use Rattle.laws.proofs.Picks.{pick_both}
use Rattle.laws.proofs.Members.{All}
use Rattle.laws.proofs.Walks.{Ends}
use Rattle.resting.specs.Kept.{row}

pub all_row : (P : ℕ → Type 0) (from n : ℕ) → ((i : ℕ) → from ≤ i → i < from + n → P i) → All P (row from n)
unfolding table_from
all_row P from zero h = tt
all_row P from (suc n) h = (h from (omega arith) (omega arith), all_row P (suc from) n (λ i a b. h i (omega arith) (omega arith)))

pub member_row : (i from n : ℕ) → from ≤ i → i < from + n → member i (row from n) ≡ true
unfolding table_from member
member_row i from zero a b = absurd (omega arith)
member_row i from (suc n) a b =
    pick_both (λ t. t ≡ true) (eqb i from) true (member i (row (suc from) n)) (λ e. refl)
    (λ e. let ne = eqb-false i from e in member_row i (suc from) n (omega arith) (omega arith))

pub row_append : (from a b : ℕ) → row from (a + b) ≡ row from a ++ row (from + a) b
unfolding table_from
row_append from zero b = ap₂ row (let e : from ≡ from + 0 = omega arith in e) (let e : 0 + b ≡ b = omega arith in e)
row_append from (suc a) b =
    ap (row from) (let e : suc a + b ≡ suc (a + b) = omega arith in e)
    ∙ ap (λ r. from ∷ r) (row_append (suc from) a b ∙ ap (λ k. row (suc from) a ++ row k b) (let e : suc from + a ≡ from + suc a = omega arith in e))

pub row_split : (from n i : ℕ) → from ≤ i → i < from + n → row from n ≡ row from (i - from) ++ i ∷ row (suc i) (from + n - suc i)
unfolding table_from
row_split from n i a b =
    let k : ℕ = from + n - suc i in
    ap (row from) (let e : n ≡ i - from + suc k = omega arith in e)
    ∙ row_append from (i - from) (suc k)
    ∙ ap (λ j. row from (i - from) ++ j ∷ row (suc j) k) (let e : from + (i - from) ≡ i = omega arith in e)

-- what a function has at each number of a row, where it has what a list has
pub map_row : {A : Type 0} (d : A) (g : ℕ → A) (l : List A) (from n : ℕ) → length l ≡ n → ((j : ℕ) → j < n → g (from + j) ≡ get_or l j d) → map g (row from n) ≡ l
unfolding table_from
map_row d g [] from zero e h = refl
map_row d g [] from (suc n) e h = absurd (omega arith)
map_row d g (x ∷ l) from zero e h = absurd (omega arith)
map_row d g (x ∷ l) from (suc n) e h =
    ap₂ (λ b r. b ∷ r) (ap g (let q : from ≡ from + 0 = omega arith in q) ∙ h 0 (omega arith))
    (map_row d g l (suc from) n (omega arith) (λ j b. ap g (let q : suc from + j ≡ from + suc j = omega arith in q) ∙ h (suc j) (omega arith)))

-- a walk that goes from each number to the one after it, until before the last
pub row_ends : (next : ℕ → ℕ) (end last from n : ℕ) → from + n ≡ last
    → ((i : ℕ) → from ≤ i → i < last → (next i ≡ pick (ltb (suc i) last) (suc i) end) × (i ≡ end → ⊥))
    → Ends next end (pick (ltb from last) from end) (row from n)
unfolding table_from
row_ends next end last from zero e h = rw (le-ltb from last (omega arith)) refl
row_ends next end last from (suc n) e h =
    let here = h from (omega arith) (omega arith) in
    rw (lt-ltb from last (omega arith))
    (refl, here.1, rw here.0 (row_ends next end last (suc from) n (omega arith) (λ i a b. h i (omega arith) b)))

-- what holds of each number of a row and of the member of a list that it numbers
abbrev pub Numbered : (ℕ → ℕ → Type 0) → ℕ → List ℕ → Type 0
Numbered P from [] = Unit {0}
Numbered P from (x ∷ l) = P from x × Numbered P (suc from) l
