-- What a check of a whole text returns, and how the positions that it gives belong to the script that the text is.
use Rattle.std.specs.Prelude.{ℕ, zero, suc, ◌+◌, ◌≤◌, true, List, [], ◌∷◌, map, ◌≡◌, length, get_or, take, ltb, Result, Ok, Err}
use Rattle.catalogue.specs.Tests.{pick, every}
use Rattle.catalogue.specs.Numbers.{most_workers}
use Rattle.catalogue.specs.Script.{Script, bad, good, sum, read_script, most_requests, most_turns}
use Rattle.catalogue.specs.Run.{shares}
use Rattle.catalogue.specs.declared.workers.Request.{Request}
use Rattle.script.specs.Lines.{request_at}
use Rattle.digits.specs.Digits.{at_some}
use Rattle.script.specs.Shares.{share}
use Rattle.script.specs.Turns.{schedule_at, turn_at}
use Rattle.script.specs.declared.bad_line.BadLine.{BadLine}
use Rattle.script.specs.declared.headers.Heading.{Heading}
use Rattle.script.specs.declared.shares.Share.{Share}
use Rattle.script.specs.declared.shares.Shares.{Shares}
use Rattle.script.specs.declared.checks.Checked.{Checked}

-- ---- what is read from positions

-- so many requests, one after the other; a bad line ends them
unfoldable pub requests_at : List ℕ → ℕ → ℕ → List Request
requests_at text zero at = []
requests_at text (suc count) at = at_some (request_at text at) [] (λ r. r.value ∷ requests_at text count r.next)

-- those of each worker
unfoldable pub shares_at : List ℕ → List Share → List (List Request)
shares_at text [] = []
shares_at text (s ∷ ss) = requests_at text s.count s.start ∷ shares_at text ss

abbrev pub counts_of : List Share → List ℕ
counts_of ss = map (λ s. s.count) ss

-- a worker's share, or none
abbrev pub share_of : List Share → ℕ → Share
share_of ss w = get_or ss w (share 0 0)

-- so many turns
unfoldable pub turns_from : List ℕ → ℕ → ℕ → List ℕ
turns_from text zero at = []
turns_from text (suc turns) at = (turn_at text at).worker ∷ turns_from text turns (turn_at text at).next

-- ---- what the check promises

abbrev pub script_in : List ℕ → Checked → Script
script_in text r = record {
  counts = counts_of (take r.workers r.shares);
  requests = requests_at text (sum (counts_of (take r.workers r.shares))) (share_of r.shares 0).start;
  schedule = turns_from text r.turns r.schedule;
}

pub record IsScript (text : List ℕ) (r : Checked) : Type 0 where
  pub reads : read_script text ≡ good (script_in text r)
  pub shared : shares (script_in text r).counts (script_in text r).requests ≡ shares_at text (take r.workers r.shares)
  pub one : 1 ≤ r.workers
  pub few : r.workers ≤ most_workers
  pub most : sum (script_in text r).counts ≤ most_requests
  pub timed : r.turns ≤ most_turns
  pub manned : every (λ w. ltb w r.workers) (script_in text r).schedule ≡ true

-- a bad line is the script's first one, and without one the text is a script
abbrev pub Answers : List ℕ → Result Checked BadLine → Type 0
Answers text (Ok r) = IsScript text r
Answers text (Err b) = read_script text ≡ bad b.line

-- ---- its last part

abbrev pub no_script : ℕ → Result Checked BadLine
no_script n = Err (record { line = n })

-- the schedule, and nothing after it
unfoldable pub ending_at : List ℕ → Heading → Shares → Result Checked BadLine
ending_at text h s =
    at_some (schedule_at h.workers h.turns text s.next) (no_script (2 + h.total)) (λ next.
    pick (ltb next (length text)) (no_script (3 + h.total))
    (Ok (record { workers = h.workers; shares = s.shares; schedule = s.next; turns = h.turns })))
