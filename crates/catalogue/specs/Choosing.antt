-- The user's demand 3: every run from an empty catalogue,
-- for any requests, any choice of worker at each step, and any sweeps.
use Rattle.std.specs.Prelude.{ℕ, List, [], ◌∷◌}
use Rattle.catalogue.specs.Catalogue.{Catalogue, fresh}
use Rattle.catalogue.specs.Workers.{idle_table}
use Rattle.catalogue.specs.Answers.{Told, told, made_number}
use Rattle.catalogue.specs.Calls.{After, take_up, step}
use Rattle.catalogue.specs.Sweep.{AfterSweep, sweep_into}
use Rattle.catalogue.specs.declared.workers.Request.{Request}
use Rattle.catalogue.specs.declared.workers.Table.{Table}

-- What the host may choose to do next.
pub data Choice : Type 0 where
  takes : ℕ → Request → Choice
  steps : ℕ → Choice
  sweeps : Choice

-- The catalogue and the table between two choices.
pub record Moment : Type 0 where
  pub catalogue : Catalogue
  pub table : Table

abbrev pub start : ℕ → Moment
start workers = record { catalogue = fresh; table = idle_table workers }

-- The moment after a choice, and what it returns.
pub record Chosen : Type 0 where
  pub moment : Moment
  pub tells : Told

abbrev pub chosen_call : After → Chosen
chosen_call a = record { moment = record { catalogue = a.catalogue; table = a.table }; tells = told a.answer }

-- After a sweep the second catalogue takes the place of the first; a refused sweep changes nothing.
abbrev pub chosen_sweep : Table → AfterSweep → Chosen
chosen_sweep t a = record { moment = record { catalogue = a.second; table = t }; tells = record { number = made_number a.answer; met = 0 } }

abbrev pub choose : Moment → Choice → Chosen
choose m (takes w q) = chosen_call (take_up m.catalogue m.table w q)
choose m (steps w) = chosen_call (step m.catalogue m.table w)
choose m sweeps = chosen_sweep m.table (sweep_into m.catalogue m.catalogue m.table)

-- All that a list of choices returns, in order, and the moment after it.
unfoldable pub telling : Moment → List Choice → List Told
telling m [] = []
telling m (c ∷ cs) = let d = choose m c in d.tells ∷ telling d.moment cs

unfoldable pub after : Moment → List Choice → Moment
after m [] = m
after m (c ∷ cs) = after (choose m c).moment cs
