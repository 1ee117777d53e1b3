-- The schedule line, read number by number.
use Rattle.std.specs.Prelude.{ℕ, List, length, eqb, ltb, Option, option_map}
use Rattle.std.proofs.Math.Option.{none, some}
use Rattle.std.proofs.Math.Option as maybe
use Rattle.catalogue.specs.Tests.{pick, given, every}
use Rattle.catalogue.specs.Script.{all_of, natural, read_schedule}
use Rattle.digits.specs.Digits.{at_some}
use Rattle.digits.specs.declared.numbers.Parsed.{Parsed}
use Rattle.script.specs.Words.{number_at}
use Rattle.script.specs.Lines.{line_at, words_at}
use Rattle.script.specs.declared.turns.Turn.{Turn}

-- where the text goes on
abbrev pub as_after : Option (Parsed (List ℕ)) → Option ℕ
as_after o = option_map (λ p. p.next) o

unfoldable pub schedule_at : ℕ → ℕ → List ℕ → ℕ → Option ℕ
schedule_at workers turns text at = as_after (line_at (read_schedule workers turns) text at)

-- so many numbers of workers, as words
abbrev pub scheduled : ℕ → ℕ → List (List ℕ) → maybe.Option (List ℕ)
scheduled workers turns ws =
    given (all_of natural ws) none (λ ns. pick (eqb (length ns) turns) (pick (every (λ w. ltb w workers) ns) (some ns) none) none)

unfoldable pub turns_at : ℕ → ℕ → List ℕ → ℕ → Option ℕ
turns_at workers turns text at = as_after (words_at (scheduled workers turns) text at)

-- the worker whose turn it is, and where the next turn stands; of no meaning where no number stands
unfoldable pub turn_at : List ℕ → ℕ → Turn
turn_at text at = at_some (number_at text at) (record { worker = 0; next = 0 }) (λ n. record { worker = n.value; next = n.next })
