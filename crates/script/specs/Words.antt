-- What stands at a position of a text: the words of a line one after the other, numbers and keys.
use Rattle.std.specs.Prelude.{ℕ, suc, ◌+◌, Bool, true, false, List, [], ◌∷◌, ℤ, length, get_or, drop, eqb, leb, Option, None, Some}
use Rattle.std.proofs.Math.Option.{none, some}
use Rattle.std.proofs.Math.Option as maybe
use Rattle.catalogue.specs.Tests.{pick}
use Rattle.catalogue.specs.Text.{line_end, space}
use Rattle.catalogue.specs.Script.{natural, signed, key_fits}
use Rattle.digits.specs.Digits.{number_fits, at_some}
use Rattle.digits.specs.declared.numbers.Parsed.{Parsed}
use Rattle.script.specs.declared.numbers.Item.{Item}
use Rattle.script.specs.declared.numbers.End.{End}

-- The first word of a text: the bytes before the next space or line's end, and whether it is the line's end.
pub record Word : Type 0 where
  pub bytes : List ℕ
  pub last : Bool

-- a word with one byte more before it
abbrev pub longer : ℕ → maybe.Option Word → maybe.Option Word
longer b none = none
longer b (some w) = some (record { bytes = b ∷ w.bytes; last = w.last })

unfoldable pub next_word : List ℕ → maybe.Option Word
next_word [] = none
next_word (b ∷ bs) =
    pick (eqb b line_end) (some (record { bytes = []; last = true }))
    (pick (eqb b space) (some (record { bytes = []; last = false }))
    (longer b (next_word bs)))

-- where the text goes on after a word
abbrev pub behind : ℕ → List ℕ → ℕ
behind at w = at + suc (length w)

-- ---- numbers and keys

abbrev pub item : {X : Type 0} → X → ℕ → Bool → Option (Item X)
item x next last = Some (record { value = x; next = next; last = last })

-- the word at a position as something read, where that passes a test
abbrev pub tested : {X : Type 0} → (X → Bool) → Bool → ℕ → maybe.Option X → Option (Item X)
tested fits last next none = None
tested fits last next (some x) = pick (fits x) (item x next last) None

abbrev pub item_in : {X : Type 0} → (List ℕ → maybe.Option X) → (X → Bool) → ℕ → maybe.Option Word → Option (Item X)
item_in reading fits at none = None
item_in reading fits at (some w) = tested fits w.last (behind at w.bytes) (reading w.bytes)

abbrev pub item_at : {X : Type 0} → (List ℕ → maybe.Option X) → (X → Bool) → List ℕ → ℕ → Option (Item X)
item_at reading fits text at = item_in reading fits at (next_word (drop at text))

unfoldable pub number_at : List ℕ → ℕ → Option (Item ℕ)
number_at text at = item_at natural number_fits text at

unfoldable pub key_at : List ℕ → ℕ → Option (Item ℤ)
key_at text at = item_at signed key_fits text at

-- ---- the end of a word

unfoldable pub end_at : List ℕ → ℕ → Option End
end_at text at =
    pick (leb (length text) at) None
    (pick (eqb (get_or text at 0) line_end) (Some (record { next = at + 1; last = true }))
    (pick (eqb (get_or text at 0) space) (Some (record { next = at + 1; last = false })) None))

-- what was parsed, as a word that ends after it
abbrev pub ended : {X : Type 0} → List ℕ → Parsed X → Option (Item X)
ended text p = at_some (end_at text p.next) None (λ e. item p.value e.next e.last)
