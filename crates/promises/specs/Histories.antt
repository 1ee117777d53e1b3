-- The history of a run: which call each choice answers, when that call was taken up,
-- and the live graph between two choices.
use Rattle.std.specs.Prelude.{ℕ, zero, suc, Bool, true, false, List, [], ◌∷◌, ◌++◌, pos, eqb, Result, Ok, Err}
use Rattle.std.proofs.Math.Option.{Option, none, some}
use Rattle.catalogue.specs.Tests.{pick}
use Rattle.catalogue.specs.Calls.{take_up, step}
use Rattle.catalogue.specs.Choosing.{Choice, takes, steps, sweeps, Moment, choose}
use Rattle.catalogue.specs.declared.answers.Refusal.{Refusal}
use Rattle.catalogue.specs.declared.answers.Answer.{Answer}
use Rattle.catalogue.specs.declared.answers.Answer.TheVariants.{Going, Reply}
use Rattle.row.specs.Rows.Row.{Call, History}
use Rattle.promises.specs.Moments.{moment, chosen}
use Rattle.promises.specs.Graphs.{Graph, live}
use Rattle.promises.specs.Alone.{Ask, ask_of}

-- A call that a worker has begun: the number of the choice that took it up, counted from 1, and what was asked.
pub record Begun : Type 0 where
  pub first : ℕ
  pub ask : Ask

-- a taking up that is not refused
abbrev pub accepted : Result Answer Refusal → Bool
accepted (Ok (Going met)) = true
accepted (Ok (Reply n)) = false
accepted (Err r) = false

-- what a choice takes up for a worker, if anything
abbrev pub taken_up : Moment → Choice → ℕ → Option Ask
taken_up m (takes v q) w = pick (eqb v w) (pick (accepted (take_up m.catalogue m.table v q).answer) (some (ask_of q)) none) none
taken_up m (steps v) w = none
taken_up m sweeps w = none

abbrev pub since : Option Ask → ℕ → Begun → Begun
since none n old = old
since (some q) n old = record { first = n; ask = q }

-- the last call that a worker took up within the first n choices
unfoldable pub begun : ℕ → List Choice → ℕ → ℕ → Begun
begun workers choices w zero = record { first = 0; ask = Ask.ConV (pos 0) }
begun workers choices w (suc n) = since (taken_up (moment workers choices n) (chosen workers choices n) w) (suc n) (begun workers choices w n)

-- the call that a reply answers
abbrev pub answers : Begun → Result Answer Refusal → Option (Call Ask ℕ)
answers b (Ok (Going met)) = none
answers b (Ok (Reply n)) = some (record { first = b.first; request = b.ask; reply = n })
answers b (Err r) = none

abbrev pub answered_by : (ℕ → Begun) → Moment → Choice → Option (Call Ask ℕ)
answered_by b m (takes v q) = none
answered_by b m (steps v) = answers (b v) (step m.catalogue m.table v).answer
answered_by b m sweeps = none

-- the call that choice n answers, counted from 1
abbrev pub answered : ℕ → List Choice → ℕ → Option (Call Ask ℕ)
answered workers choices zero = none
answered workers choices (suc n) = answered_by (λ w. begun workers choices w n) (moment workers choices n) (chosen workers choices n)

abbrev pub history : ℕ → List Choice → History Graph Ask ℕ
history workers choices = record { live = λ n. live (moment workers choices n).catalogue; answered = answered workers choices }

-- Which workers are replied to by a list of choices, and with which numbers, in order.
abbrev pub reply_to : ℕ → Result Answer Refusal → List (ℕ × ℕ)
reply_to w (Ok (Going met)) = []
reply_to w (Ok (Reply n)) = (w, n) ∷ []
reply_to w (Err r) = []

abbrev pub reply_by : Moment → Choice → List (ℕ × ℕ)
reply_by m (takes v q) = []
reply_by m (steps v) = reply_to v (step m.catalogue m.table v).answer
reply_by m sweeps = []

unfoldable pub replies_of : Moment → List Choice → List (ℕ × ℕ)
replies_of m [] = []
replies_of m (c ∷ cs) = reply_by m c ++ replies_of (choose m c).moment cs

-- Three replies stand outside the row: 6, 7 and 9.
abbrev pub in_row : Call Ask ℕ → Bool
in_row c = pick (eqb c.reply 6) false (pick (eqb c.reply 7) false (pick (eqb c.reply 9) false true))
