-- What the calls do on lent memory is what the definitions do on catalogues:
-- a host's run is the run of the same choices. Proved in proofs/Runs.
use Rattle.std.specs.Prelude.{ℕ, true, List, ◌≡◌, Ok}
use Rattle.catalogue.specs.Lent.{Memory, lay, sized, lent_fresh}
use Rattle.catalogue.specs.Choosing.{Choice, Moment, start, telling, after}
use Rattle.lent.specs.Hosting.{LentMoment, lent_start, lent_telling, lent_after}

-- the memory in use is that of the catalogue, and the table is the same
pub record Holds (h : LentMoment) (m : Moment) : Type 0 where
  pub memory : h.memory ≡ lay m.catalogue
  pub table : h.table ≡ m.table

-- From any two memories of the stated sizes: the first is made fresh,
-- and after any choices it holds what the definitions say, and each returned what they say.
pub record SameRun (m n : Memory) (workers : ℕ) (choices : List Choice) : Type 0 where
  pub made : (lent_fresh m).answer ≡ Ok tt
  pub holds : Holds (lent_after (lent_start m n workers) choices) (after (start workers) choices)
  pub told : lent_telling (lent_start m n workers) choices ≡ telling (start workers) choices

abbrev pub LentRuns : Type 0
LentRuns = (m n : Memory) → sized m ≡ true → sized n ≡ true → (workers : ℕ) (choices : List Choice) → SameRun m n workers choices
