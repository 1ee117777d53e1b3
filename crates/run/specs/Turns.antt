-- One turn on lent memory, as the code has it: what becomes of its state, of the memory and of the lines of the
-- replies.
use Rattle.std.specs.Prelude.{ℕ, ◌+◌, ◌-◌, ◌≤◌, true, List, [], ◌∷◌, ◌≡◌, ℤ, pos, length, set, eqb, Result, Ok, Err}
use Rattle.catalogue.specs.Tests.{pick}
use Rattle.catalogue.specs.Calls.{worker_fits}
use Rattle.catalogue.specs.Lent.{Memory, Sized, lent_take_up, lent_step}
use Rattle.catalogue.specs.Text.{line}
use Rattle.catalogue.specs.Workers.{busy, worker_at, request_of}
use Rattle.catalogue.specs.declared.answers.Refusal.{Refusal}
use Rattle.catalogue.specs.declared.answers.Answer.{Answer}
use Rattle.catalogue.specs.declared.answers.Answer.TheVariants.{Going, Reply}
use Rattle.catalogue.specs.declared.workers.Request.{Request}
use Rattle.catalogue.specs.declared.workers.Table.{Table}
use Rattle.digits.specs.Digits.{at_some}
use Rattle.script.specs.Lines.{request_at}
use Rattle.script.specs.Shares.{share}
use Rattle.script.specs.Checks.{share_of}
use Rattle.text.specs.Puts.{put_at}
use Rattle.run.specs.declared.states.State.{State}

-- the buffer for the lines of the replies: what they take at most, and what writing one more may ask for
abbrev pub lines_size : ℕ
lines_size = 12288

-- ---- the answer of a step

abbrev pub reply_bytes : ℕ → ℕ → ℕ → ℕ → List ℕ
reply_bytes position worker code n = line (pos position ∷ (pos worker ∷ (pos code ∷ (pos n ∷ []))))

-- the state with another table
abbrev pub moved : State → Table → State
moved s t = record { table = t; left = s.left; replies = s.replies; end = s.end }

abbrev pub told : State → Table → ℕ → ℕ → ℕ → Result Answer Refusal → State
told s t position worker code (Ok (Going met)) = moved s t
told s t position worker code (Ok (Reply n)) =
    record { table = t; left = s.left; replies = s.replies + 1; end = s.end + length (reply_bytes position worker code n) }
told s t position worker code (Err r) = moved s t

abbrev pub lines_told : List ℕ → ℕ → ℕ → ℕ → ℕ → Result Answer Refusal → List ℕ
lines_told lines end position worker code (Ok (Going met)) = lines
lines_told lines end position worker code (Ok (Reply n)) = put_at lines end (reply_bytes position worker code n)
lines_told lines end position worker code (Err r) = lines

-- ---- the next request

-- the state after a request is taken up, with the text that goes on after it
abbrev pub taken : Memory → State → ℕ → Request → ℕ → State
taken m s w q next = record {
  table = (lent_take_up m s.table w q).outcome.table;
  left = set s.left w (share next ((share_of s.left w).count - 1));
  replies = s.replies;
  end = s.end;
}

unfoldable pub taken_next : List ℕ → Memory → State → ℕ → State
taken_next text m s w =
    pick (eqb (share_of s.left w).count 0) s (at_some (request_at text (share_of s.left w).start) s (λ p. taken m s w p.value p.next))

-- ---- one turn

pub record Turned : Type 0 where
  pub memory : Memory
  pub lines : List ℕ
  pub state : State

abbrev pub stepped_on : Memory → List ℕ → State → ℕ → ℕ → Turned
stepped_on m lines s position w =
    let after = lent_step m s.table w in
    let code = (request_of (worker_at s.table w).place).code in
    record {
      memory = after.memory;
      lines = lines_told lines s.end position w code after.outcome.answer;
      state = told s after.outcome.table position w code after.outcome.answer;
    }

abbrev pub turned : List ℕ → Memory → List ℕ → State → ℕ → ℕ → Turned
turned text m lines s position w =
    pick (busy s.table w) (stepped_on m lines s position w) (record { memory = m; lines = lines; state = taken_next text m s w })

-- a worker of the table, memory of the stated sizes, and room for one more line
pub record Ready (keys : List ℤ) (words lines : List ℕ) (s : State) (w : ℕ) : Type 0 where
  pub sized : Sized keys words
  pub known : worker_fits s.table.count w ≡ true
  pub room : s.end + 48 ≤ length lines
  pub few : s.replies ≤ 1024

-- the state after a turn, and the lent slices after it
abbrev pub Turns : List ℕ → Memory → List ℕ → State → ℕ → ℕ → State → List ℤ → List ℕ → List ℕ → Type 0
Turns text m lines s position w r keys' words' lines' =
    (r ≡ (turned text m lines s position w).state)
    × ((keys' ≡ (turned text m lines s position w).memory.keys)
    × ((words' ≡ (turned text m lines s position w).memory.words) × (lines' ≡ (turned text m lines s position w).lines)))
