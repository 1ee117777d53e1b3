-- Document 01, "Sweep and listing", the paragraphs on scripts and on output: numbers and lines as bytes.
use Rattle.std.specs.Prelude.{ℕ, zero, suc, ◌+◌, ◌/◌, ◌%◌, true, false, List, [], ◌∷◌, ◌++◌, ℤ, pos, negsuc, ltb}

abbrev pub line_end : ℕ
line_end = 10

abbrev pub space : ℕ
space = 32

abbrev pub minus : ℕ
minus = 45

abbrev pub zero_digit : ℕ
zero_digit = 48

-- a number's digits; a number has fewer than it counts, so that itself bounds the recursion
unfoldable pub digits : ℕ → ℕ → List ℕ
digits zero n = []
digits (suc most) n = elim (ltb n 10) [ true ↦ (zero_digit + n) ∷ [] | false ↦ digits most (n / 10) ++ ((zero_digit + n % 10) ∷ []) ]

abbrev pub decimal : ℕ → List ℕ
decimal n = digits (suc n) n

-- decimal, with a minus before a negative number
unfoldable pub number : ℤ → List ℕ
number (pos n) = decimal n
number (negsuc n) = minus ∷ decimal (suc n)

-- numbers with one space between
unfoldable pub spaced : List ℤ → List ℕ
spaced [] = []
spaced (n ∷ []) = number n
spaced (n ∷ (m ∷ ns)) = number n ++ (space ∷ spaced (m ∷ ns))

-- a line: its numbers, ended by byte 10
abbrev pub line : List ℤ → List ℕ
line ns = spaced ns ++ (line_end ∷ [])

unfoldable pub lines : List (List ℤ) → List ℕ
lines [] = []
lines (l ∷ ls) = line l ++ lines ls
