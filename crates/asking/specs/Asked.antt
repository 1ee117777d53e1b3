-- One request by a lone worker on lent memory: taken up, then stepped until it is answered, with a bound on its
-- steps.
use Rattle.std.specs.Prelude.{◌≡◌, ℕ, zero, suc, ◌-◌, true, false, List, ℤ, ◌==◌}
use Rattle.catalogue.specs.Answers.{told}
use Rattle.catalogue.specs.Lent.{Memory, lent_take_up, lent_step}
use Rattle.catalogue.specs.Workers.{idle_table}
use Rattle.catalogue.specs.declared.answers.Outcome.{Outcome}
use Rattle.catalogue.specs.declared.workers.Request.{Request}
use Rattle.catalogue.specs.declared.workers.Table.{Table}
use Rattle.asking.specs.declared.perform.Performed.{Performed}

abbrev pub most_steps : ℕ
most_steps = 10000

-- the request between two steps; the number is 0 while it is not answered
pub record Standing : Type 0 where
  pub memory : Memory
  pub table : Table
  pub number : ℕ

pub record Ended : Type 0 where
  pub memory : Memory
  pub performed : Performed

abbrev pub standing : Memory → Outcome → Standing
standing m r = record { memory = m; table = r.table; number = (told r.answer).number }

abbrev pub ended : ℕ → Standing → Ended
ended left s = record { memory = s.memory; performed = record { number = s.number; steps = most_steps - left } }

abbrev pub next : Standing → Standing
next s = standing (lent_step s.memory s.table 0).memory (lent_step s.memory s.table 0).outcome

-- with so many steps left
unfoldable pub ask_on : ℕ → Standing → Ended
ask_on zero s = ended 0 s
ask_on (suc left) s = elim (s.number == 0) [ true ↦ ask_on left (next s) | false ↦ ended (suc left) s ]

unfoldable pub asked : Memory → Request → Ended
asked m q = ask_on most_steps (standing m (lent_take_up m (idle_table 1) 0 q).outcome)

-- what performing promises: the reply with its steps, and both slices after it
abbrev pub Performs : Memory → Request → Performed → List ℤ → List ℕ → Type 0
Performs m q r keys words = (r ≡ (asked m q).performed) × ((keys ≡ (asked m q).memory.keys) × (words ≡ (asked m q).memory.words))
