-- A number at a position of a text: the longest piece that has its form, read as a word of a script is read.
use Rattle.std.specs.Prelude.{ℕ, suc, ◌+◌, ◌-◌, Bool, false, List, [], ◌∷◌, ℤ, pos, negsuc, length, get_or, drop, eqb, leb, ltb, Option, None, Some}
use Rattle.std.proofs.Math.Option as maybe
use Rattle.catalogue.specs.Tests.{pick, given}
use Rattle.catalogue.specs.Text.{minus, zero_digit}
use Rattle.catalogue.specs.Script.{natural, signed}
use Rattle.digits.specs.declared.numbers.Parsed.{Parsed}

-- ---- the piece

abbrev pub digit : ℕ → Bool
digit b = pick (leb zero_digit b) (leb b (zero_digit + 9)) false

-- the digits that a text begins with
unfoldable pub digits_of : List ℕ → List ℕ
digits_of [] = []
digits_of (b ∷ bs) = pick (digit b) (b ∷ digits_of bs) []

-- the same with a minus before them, if there is one
unfoldable pub signed_of : List ℕ → List ℕ
signed_of [] = []
signed_of (b ∷ bs) = pick (eqb b minus) (b ∷ digits_of bs) (digits_of (b ∷ bs))

-- ---- what it is read as

-- a value that was read, and where the text goes on
abbrev pub found : {X : Type 0} → X → ℕ → Option (Parsed X)
found x next = Some (record { value = x; next = next })

-- the value of a piece that begins at a position, and the index of the first byte after it
abbrev pub piece_in : {X : Type 0} → (List ℕ → maybe.Option X) → (X → Bool) → ℕ → List ℕ → Option (Parsed X)
piece_in reading fits at w = given (reading w) None (λ x. pick (fits x) (found x (at + length w)) None)

-- no number that is read is greater
abbrev pub most_number : ℕ
most_number = 2147483647

abbrev pub number_fits : ℕ → Bool
number_fits n = leb n most_number

abbrev pub signed_fits : ℤ → Bool
signed_fits (pos n) = number_fits n
signed_fits (negsuc n) = number_fits (suc n)

unfoldable pub digits_at : List ℕ → ℕ → Option (Parsed ℕ)
digits_at text at = piece_in natural number_fits at (digits_of (drop at text))

unfoldable pub signed_at : List ℕ → ℕ → Option (Parsed ℤ)
signed_at text at = piece_in signed signed_fits at (signed_of (drop at text))

-- what is made of a value, or something else where there is none
abbrev pub at_some : {A B : Type 0} → Option A → B → (A → B) → B
at_some None other f = other
at_some (Some a) other f = f a

-- ---- one digit

-- the digit at a position, if one stands there
unfoldable pub digit_at : List ℕ → ℕ → Option ℕ
digit_at text at =
    pick (ltb at (length text))
    (pick (leb zero_digit (get_or text at 0)) (pick (leb (get_or text at 0) (zero_digit + 9)) (Some (get_or text at 0 - zero_digit)) None) None)
    None
