-- A line that stands at a position of a text, and the request that it is.
use Rattle.std.specs.Prelude.{ℕ, List, ℤ, drop, Option, None}
use Rattle.std.proofs.Math.Option.{none, some}
use Rattle.std.proofs.Math.Option as maybe
use Rattle.catalogue.specs.Tests.{pick, given, every}
use Rattle.catalogue.specs.Workers.{asks}
use Rattle.catalogue.specs.Script.{next_line, split, all_of, signed, key_fits, request_from, read_request}
use Rattle.catalogue.specs.declared.workers.Request.{Request}
use Rattle.digits.specs.Digits.{found}
use Rattle.digits.specs.declared.numbers.Parsed.{Parsed}
use Rattle.script.specs.Words.{behind}

-- what a line is read as, and where the text goes on; none if no line is ended or it is none of the kind
abbrev pub line_in : {A : Type 0} → (List ℕ → maybe.Option A) → ℕ → maybe.Option (List ℕ × List ℕ) → Option (Parsed A)
line_in kind at none = None
line_in kind at (some r) = given (kind r.0) None (λ a. found a (behind at r.0))

abbrev pub line_at : {A : Type 0} → (List ℕ → maybe.Option A) → List ℕ → ℕ → Option (Parsed A)
line_at kind text at = line_in kind at (next_line (drop at text))

-- the same for a kind that goes by words
abbrev pub words_at : {A : Type 0} → (List (List ℕ) → maybe.Option A) → List ℕ → ℕ → Option (Parsed A)
words_at kind text at = line_at (λ l. kind (split l)) text at

-- ---- requests

unfoldable pub request_at : List ℕ → ℕ → Option (Parsed Request)
request_at text at = line_at read_request text at

-- a line that was read
abbrev pub line_of : ℕ → ℤ → ℤ → ℕ → Option (Parsed Request)
line_of code k l next = found (asks code k l) next

-- the words after those that were read, as keys of which something is made
abbrev pub keyed : (List ℤ → maybe.Option Request) → List (List ℕ) → maybe.Option Request
keyed make ws = given (all_of signed ws) none (λ keys. pick (every key_fits keys) (make keys) none)

-- what follows a code
unfoldable pub keys_at : ℕ → List ℕ → ℕ → Option (Parsed Request)
keys_at code text at = words_at (keyed (request_from code)) text at
