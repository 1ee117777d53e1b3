-- What the host's calls promise, for any memory, table and arguments: the number returned, and the lent memory after
-- it.
use Rattle.std.specs.Prelude.{ℕ, Bool, true, false, List, ◌≡◌, ℤ, Ok, Err, Result}
use Rattle.catalogue.specs.Tests.{pick}
use Rattle.catalogue.specs.Workers.{worker_at, idle_table}
use Rattle.catalogue.specs.Calls.{count_fits}
use Rattle.catalogue.specs.declared.answers.Refusal.{Refusal}
use Rattle.catalogue.specs.declared.answers.Answer.{Answer}
use Rattle.catalogue.specs.declared.answers.Outcome.{Outcome}
use Rattle.catalogue.specs.declared.answers.Refusal.TheVariants.{Worker}
use Rattle.catalogue.specs.Lent.{Memory, lent_fresh, lent_take_up, lent_step, lent_listing, lent_run, lent_sweep}
use Rattle.catalogue.specs.declared.workers.Request.{Request}
use Rattle.border.specs.Kept.{table_in, record_of, record_at, put_record, slot, idle_kept}
use Rattle.border.specs.Packing.{packed_answer, packed_listed, packed_made, packed_ran}
use Rattle.border.specs.declared.kept.Kept.{Kept}
use Rattle.border.specs.declared.kept.Record.{Record}
use Rattle.host.specs.declared.one.Moved.{Moved}

abbrev pub refuses : Result Answer Refusal → Bool
refuses (Ok answer) = false
refuses (Err why) = true

-- the table t after a call for worker w, number by number: as it was, if the call refuses; else with the outcome's
-- worker written down at w
abbrev pub left_of : Kept → ℕ → Outcome → Kept
left_of t w o = pick (refuses o.answer) t (put_record t w (record_of (worker_at o.table w)))

-- the table t after a call: just these numbers, and they stand for the outcome's table
abbrev pub Leaves : Kept → ℕ → Outcome → Kept → Type 0
Leaves t w o t' = (t' ≡ left_of t w o) × (table_in t' ≡ o.table)

-- a step
abbrev pub Steps : Memory → Kept → ℕ → ℕ → Kept → List ℤ → List ℕ → Type 0
Steps m t w r t' keys words =
    let after = lent_step m (table_in t) w in
    (r ≡ packed_answer after.outcome.answer) × (Leaves t w after.outcome t' × ((keys ≡ after.memory.keys) × (words ≡ after.memory.words)))

-- taking up only reads the catalogue
abbrev pub TakesUp : Memory → Kept → ℕ → Request → ℕ → Kept → Type 0
TakesUp m t w q r t' =
    let after = lent_take_up m (table_in t) w q in
    (r ≡ packed_answer after.outcome.answer) × Leaves t w after.outcome t'

-- The same of the one record that the call reads and stores back, in whatever table it stands.
abbrev pub InAnyTable : ℕ → ℕ → Record → (Kept → Type 0) → Type 0
InAnyTable count w r P = (t : Kept) → t.count ≡ count → record_at t (slot w) ≡ r → P t

abbrev pub StepsOne : Memory → ℕ → ℕ → Record → Moved → List ℤ → List ℕ → Type 0
StepsOne m count w r x keys words = InAnyTable count w r (λ t. Steps m t w x.told (put_record t (slot w) x.kept) keys words)

abbrev pub TakesUpOne : Memory → ℕ → ℕ → Record → Request → Moved → Type 0
TakesUpOne m count w r q x = InAnyTable count w r (λ t. TakesUp m t w q x.told (put_record t (slot w) x.kept))

abbrev pub MakesFresh : Memory → ℕ → List ℤ → List ℕ → Type 0
MakesFresh m r keys words =
    (r ≡ packed_made (lent_fresh m).answer) × ((keys ≡ (lent_fresh m).memory.keys) × (words ≡ (lent_fresh m).memory.words))

abbrev pub Lists : Memory → List ℕ → ℕ → List ℕ → Type 0
Lists m output r output' = (r ≡ packed_listed (lent_listing m output).answer) × (output' ≡ (lent_listing m output).output)

-- a script: its result, and the catalogue after it
abbrev pub Runs : List ℕ → Memory → List ℕ → ℕ → List ℤ → List ℕ → List ℕ → Type 0
Runs script m output r keys words output' =
    let after = lent_run script m output in
    (r ≡ packed_ran after.answer) × ((keys ≡ after.memory.keys) × ((words ≡ after.memory.words) × (output' ≡ after.output)))

-- a sweep of one memory into a second, with the workers as the table has them; the first memory and the table are
-- only read
abbrev pub Sweeps : Memory → Memory → Kept → ℕ → List ℤ → List ℕ → Type 0
Sweeps m n t r keys words =
    let after = lent_sweep m n (table_in t) in
    (r ≡ packed_made after.answer) × ((keys ≡ after.memory.keys) × (words ≡ after.memory.words))

-- a table of idle workers, number by number and as the table that it stands for: 21 is a count that is not 1 to 8
abbrev pub MakesTable : Kept → ℕ → ℕ → Kept → Type 0
MakesTable t count r t' =
    (r ≡ packed_made (pick (count_fits count) (Ok tt) (Err Worker)))
    × ((t' ≡ pick (count_fits count) (idle_kept count) t) × (table_in t' ≡ pick (count_fits count) (idle_table count) (table_in t)))
