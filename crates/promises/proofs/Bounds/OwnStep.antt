-- A busy worker's own step is one move of the machine's worker, answered as the machine answers.
use Prim.Native.Nat.{ℕ, ◌≤◌, ◌<◌}
use mathlib.Core.Bool.{true, false}
use mathlib.Core.Option.{none}
use mathlib.Core.Path.{◌≡◌, refl, sym, ◌∙◌}
use native.Mathlib.Omega.{arith}
use borrow.Author.Tests.{le-leb, lt-ltb}
use Rattle.std.proofs.Common.{Result, Ok, Err}
use Rattle.catalogue.specs.Calls.{After, count_fits, worker_fits, step}
use Rattle.catalogue.specs.Choosing.{Moment}
use Rattle.catalogue.specs.Workers.{busy}
use Rattle.catalogue.specs.declared.answers.Refusal.{Refusal}
use Rattle.catalogue.specs.declared.answers.Answer.{Answer}
use Rattle.catalogue.specs.declared.answers.Answer.TheVariants as answer
use Rattle.laws.proofs.Picks.{clash}
use Rattle.row.specs.Machine.Moves.{move}
use Rattle.row.specs.Machine.Choices.{Conf}
use Rattle.promises.specs.Bounds.{is_reply}
use Rattle.promises.proofs.Runs.Held.{Held}
use Rattle.promises.proofs.Runs.Stepping.{replied, Carried, carried}

no_reply : (a : Result Answer Refusal) → is_reply a ≡ false → replied a ≡ none
no_reply (Ok (answer.Going met)) e = refl
no_reply (Ok (answer.Reply n)) e = clash (cc)
no_reply (Err r) e = refl

-- where it is not replied to, the machine says nothing
pub silent : {workers : ℕ} {X : Conf} {v : ℕ} {a : After} → Carried workers X v a → is_reply a.answer ≡ false → (move X.world (X.at v)).answer ≡ none
silent {a = a} s n = sym s.same_reply ∙ no_reply a.answer n

module _ (workers : ℕ) (m : Moment) (X : Conf) (h : Held workers m X) (most : workers ≤ 8) (v : ℕ) (low : v < workers) (b : busy m.table v ≡ true) where
  -- a worker of the table fits it
  fits : worker_fits m.table.count v ≡ true
  unfolding worker_fits count_fits
  fits = rw (h.counted, le-leb 1 workers (omega arith), le-leb workers 8 most, lt-ltb v workers low)

  pub own_step : Carried workers X v (step m.catalogue m.table v)
  unfolding step
  own_step = rw (fits, b) (carried workers m X h most v low b)
