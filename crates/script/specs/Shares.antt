-- The request lines of a script, one after the other, and where each worker's begin.
use Rattle.std.specs.Prelude.{ℕ, zero, suc, ◌+◌, ◌≤◌, List, [], ◌∷◌, ◌++◌, ◌≡◌, length, take, drop, Result, Ok, Err}
use Rattle.catalogue.specs.Numbers.{most_workers}
use Rattle.catalogue.specs.Script.{Read, bad, good, and_then, sum, most_requests}
use Rattle.digits.specs.Digits.{at_some}
use Rattle.script.specs.Lines.{request_at}
use Rattle.script.specs.declared.bad_line.BadLine.{BadLine}
use Rattle.script.specs.declared.shares.Share.{Share}
use Rattle.script.specs.declared.shares.Shares.{Shares}

abbrev pub at_skipped : {A : Type 0} → Result ℕ BadLine → (ℕ → A) → (ℕ → A) → A
at_skipped (Err b) other f = other b.line
at_skipped (Ok next) other f = f next

-- where the text goes on after so many request lines, of which the first has a number
unfoldable pub skip_at : List ℕ → ℕ → ℕ → ℕ → Result ℕ BadLine
skip_at text zero n at = Ok at
skip_at text (suc count) n at = at_some (request_at text at) (Err (record { line = n })) (λ r. skip_at text count (suc n) r.next)

abbrev pub share : ℕ → ℕ → Share
share start count = record { start = start; count = count }

-- where each worker's lines begin and how many they are, and where the text goes on after them
unfoldable pub starts_at : List ℕ → List ℕ → ℕ → ℕ → Read (List Share × ℕ)
starts_at text [] n at = good ([], at)
starts_at text (count ∷ counts) n at =
    at_skipped (skip_at text count n at) bad (λ next. and_then (starts_at text counts (n + count) next) (λ r. good (share at count ∷ r.0, r.1)))

-- the same after those that were found before
abbrev pub onto : List Share → Read (List Share × ℕ) → Read (List Share × ℕ)
onto front (bad n) = bad n
onto front (good r) = good (front ++ r.0, r.1)

abbrev pub starts_told : ℕ → Result Shares BadLine → Read (List Share × ℕ)
starts_told workers (Err b) = bad b.line
starts_told workers (Ok r) = good (take workers r.shares, r.next)

-- the lines of the workers below w were read; n is the number of the next line
pub record Sharing (workers w n : ℕ) (counts : List ℕ) : Type 0 where
  pub few : workers ≤ most_workers
  pub within : w ≤ workers
  pub lines : n + sum (drop w (take workers counts)) ≤ 2 + most_requests
  pub counts_long : length counts ≡ most_workers
