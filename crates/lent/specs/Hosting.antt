-- A host that lends memory: it makes it fresh once, and from then on takes choices,
-- each one call on the memory and the table.
use Rattle.std.specs.Prelude.{ℕ, List, [], ◌∷◌, Result, Ok, Err}
use Rattle.catalogue.specs.Workers.{idle_table}
use Rattle.catalogue.specs.Answers.{Told, told, made_number}
use Rattle.catalogue.specs.Lent.{Memory, LentMade, LentCall, lent_fresh, lent_take_up, lent_step, lent_sweep}
use Rattle.catalogue.specs.Choosing.{Choice, takes, steps, sweeps}
use Rattle.catalogue.specs.declared.answers.Refusal.{Refusal}
use Rattle.catalogue.specs.declared.workers.Table.{Table}

-- What the host has between two choices: the catalogue in use,
-- memory that the next sweep may write into, and the table.
pub record LentMoment : Type 0 where
  pub memory : Memory
  pub second : Memory
  pub table : Table

abbrev pub lent_start : Memory → Memory → ℕ → LentMoment
lent_start m n workers = record { memory = (lent_fresh m).memory; second = n; table = idle_table workers }

-- The moment after a choice, and what it returns.
pub record LentChosen : Type 0 where
  pub moment : LentMoment
  pub tells : Told

abbrev pub lent_called : Memory → LentCall → LentChosen
lent_called second a =
    record { moment = record { memory = a.memory; second = second; table = a.outcome.table }; tells = told a.outcome.answer }

-- After a sweep the two memories change places; after a refused one they are where they were.
abbrev pub after_made : LentMoment → Memory → Result (Unit {0}) Refusal → LentMoment
after_made m written (Ok u) = record { memory = written; second = m.memory; table = m.table }
after_made m written (Err refusal) = record { memory = m.memory; second = written; table = m.table }

abbrev pub lent_swept : LentMoment → LentMade → LentChosen
lent_swept m a = record { moment = after_made m a.memory a.answer; tells = record { number = made_number a.answer; met = 0 } }

abbrev pub lent_choose : LentMoment → Choice → LentChosen
lent_choose m (takes w q) = lent_called m.second (lent_take_up m.memory m.table w q)
lent_choose m (steps w) = lent_called m.second (lent_step m.memory m.table w)
lent_choose m sweeps = lent_swept m (lent_sweep m.memory m.second m.table)

-- All that a list of choices returns, in order, and the moment after it.
unfoldable pub lent_telling : LentMoment → List Choice → List Told
lent_telling m [] = []
lent_telling m (c ∷ cs) = let d = lent_choose m c in d.tells ∷ lent_telling d.moment cs

unfoldable pub lent_after : LentMoment → List Choice → LentMoment
lent_after m [] = m
lent_after m (c ∷ cs) = lent_after (lent_choose m c).moment cs
