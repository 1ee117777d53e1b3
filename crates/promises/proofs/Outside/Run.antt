-- The machine beside each moment of a run, and that it makes one choice from each to the next.
use Prim.Native.Nat.{ℕ, suc}
use mathlib.Core.List.{List}
use mathlib.Core.Path.{◌≡◌, refl, ap}
use lib.ListN.{length}
use lib.Seq.{take-length}
use Rattle.catalogue.specs.Choosing.{Choice, start, after}
use Rattle.row.specs.Machine.Choices.{Conf, act, conf}
use Rattle.row.specs.Machine.Choices
use Rattle.promises.specs.Moments.{Given, at, moment}
use Rattle.promises.proofs.Runs.Held.{Held}
use Rattle.promises.proofs.Runs.Schedule

module _ (workers : ℕ) (choices : List Choice) where
  pub at_end : moment workers choices (length choices) ≡ at workers choices
  at_end = ap (after (start workers)) (take-length choices)

  module _ (g : Given workers choices) where
    abbrev pub run : (n : ℕ) → (X : Conf) × Held workers (moment workers choices n) X
    run n = let r = Schedule.run workers choices g in (conf r.schedule n, r.held n)

    pub run_next : (n : ℕ) → (c : Choices.Choice) × ((run (suc n)).0 ≡ act (run n).0 c)
    unfolding conf
    run_next n = ((Schedule.run workers choices g).schedule n, refl)
