-- Tests that compute, and the small tools that every definition uses.
use Rattle.std.specs.Prelude.{ℕ, zero, suc, Bool, true, false, List, [], ◌∷◌, ℤ, pos, negsuc, eqb, leb, Result, Ok, Err}
use Rattle.std.proofs.Math.Option.{Option, none, some}

-- the first of two where the test holds, else the second
abbrev pub pick : {A : Type 0} → Bool → A → A → A
pick true a b = a
pick false a b = b

-- A check that refuses where its test fails.
abbrev pub checked : {E : Type 0} → Bool → E → Result (Unit {0}) E
checked t why = pick t (Ok tt) (Err why)

-- a number is 1 to another
abbrev pub one_to : ℕ → ℕ → Bool
one_to most n = pick (leb 1 n) (leb n most) false

-- two signed numbers are equal
unfoldable pub eq_z : ℤ → ℤ → Bool
eq_z (pos a) (pos b) = eqb a b
eq_z (pos a) (negsuc b) = false
eq_z (negsuc a) (pos b) = false
eq_z (negsuc a) (negsuc b) = eqb a b

-- a function with another value at one number
unfoldable pub upd : {A : Type 0} → (ℕ → A) → ℕ → A → ℕ → A
upd f i v j = pick (eqb j i) v (f j)

-- what an optional value gives: something in place of none, or a function of the value
abbrev pub given : {A B : Type 0} → Option A → B → (A → B) → B
given none other f = other
given (some a) other f = f a

-- the members of a list that pass a test
unfoldable pub keep : {A : Type 0} → (A → Bool) → List A → List A
keep test [] = []
keep test (x ∷ xs) = let rest = keep test xs in pick (test x) (x ∷ rest) rest

-- whether every member passes
unfoldable pub every : {A : Type 0} → (A → Bool) → List A → Bool
every test [] = true
every test (x ∷ xs) = pick (test x) (every test xs) false

-- whether a number is in a list
unfoldable pub member : ℕ → List ℕ → Bool
member n [] = false
member n (x ∷ xs) = pick (eqb n x) true (member n xs)

-- a list of so many values of a function, from a first number on
unfoldable pub table_from : {A : Type 0} → (ℕ → A) → ℕ → ℕ → List A
table_from f from zero = []
table_from f from (suc n) = f from ∷ table_from f (suc from) n
