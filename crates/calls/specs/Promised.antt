-- What taking up and a step promise of their result and of the lent memory, for any memory, table and arguments.
use Rattle.std.specs.Prelude.{ℕ, List, ◌≡◌, ℤ, Result, Ok, Err}
use Rattle.catalogue.specs.Workers.{put}
use Rattle.catalogue.specs.Lent.{Memory, refused, lent_take_up, lent_step}
use Rattle.catalogue.specs.declared.answers.Outcome.{Outcome}
use Rattle.catalogue.specs.declared.answers.Refusal.{Refusal}
use Rattle.catalogue.specs.declared.answers.Stepped.{Stepped}
use Rattle.catalogue.specs.declared.workers.Request.{Request}
use Rattle.catalogue.specs.declared.workers.Table.{Table}

-- the outcome of a call from its worker's record and its answer, or its refusal, which leaves the table unchanged
abbrev pub or_refused : Table → ℕ → Result Stepped Refusal → Outcome
or_refused t w (Ok s) = record { table = put t w s.worker; answer = s.answer }
or_refused t w (Err r) = refused t r

-- taking up only reads the memory
abbrev pub TakesUp : Memory → Table → ℕ → Request → Outcome → Type 0
TakesUp m t w q r = r ≡ (lent_take_up m t w q).outcome

-- a step: the outcome, and both slices after it
abbrev pub Steps : Memory → Table → ℕ → Outcome → List ℤ → List ℕ → Type 0
Steps m t w r keys words =
    (r ≡ (lent_step m t w).outcome) × ((keys ≡ (lent_step m t w).memory.keys) × (words ≡ (lent_step m t w).memory.words))
