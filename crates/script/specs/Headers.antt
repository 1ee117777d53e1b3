-- The header line, read word by word.
use Rattle.std.specs.Prelude.{ℕ, ◌≤◌, List, ◌∷◌, ◌++◌, ◌≡◌, length, take, Option, None, Some}
use Rattle.std.proofs.Math.Option.{none}
use Rattle.std.proofs.Math.Option as maybe
use Rattle.catalogue.specs.Tests.{given}
use Rattle.catalogue.specs.Numbers.{most_workers}
use Rattle.catalogue.specs.Script.{Header, all_of, natural, header_of, read_header, sum, most_requests}
use Rattle.digits.specs.declared.numbers.Parsed.{Parsed}
use Rattle.script.specs.Lines.{line_at, words_at}
use Rattle.script.specs.declared.headers.Heading.{Heading}

-- a header with the number of workers and of all requests, and where the text goes on
abbrev pub Numbered : Type 0
Numbered = ℕ × (ℕ × Parsed Header)

abbrev pub header_parts : ℕ → ℕ → List ℕ → ℕ → ℕ → Numbered
header_parts workers total counts turns next =
    (workers, (total, record { value = record { counts = take workers counts; turns = turns }; next = next }))

abbrev pub told : Option Heading → Option Numbered
told None = None
told (Some h) = Some (header_parts h.workers h.total h.counts h.turns h.next)

abbrev pub numbered : Option (Parsed Header) → Option Numbered
numbered None = None
numbered (Some h) = Some (length h.value.counts, (sum h.value.counts, h))

unfoldable pub header_line : List ℕ → Option Numbered
header_line text = numbered (line_at read_header text 0)

-- the words after the number of workers and some of the counts
abbrev pub counting : ℕ → List ℕ → List (List ℕ) → maybe.Option Header
counting workers counts ws = given (all_of natural ws) none (λ ns. header_of (workers ∷ (counts ++ ns)))

unfoldable pub counts_at : ℕ → List ℕ → List ℕ → ℕ → Option Numbered
counts_at workers counts text at = numbered (words_at (counting workers counts) text at)

-- some of the counts are read, and their sum
pub record Counted (workers i total : ℕ) (counts : List ℕ) : Type 0 where
  pub one : 1 ≤ workers
  pub few : workers ≤ most_workers
  pub within : i ≤ workers
  pub summed : total ≡ sum (take i counts)
  pub most : total ≤ most_requests
  pub long : length counts ≡ most_workers
