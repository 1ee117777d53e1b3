-- What holds at every moment of a run, for each of them is held.
use Prim.Native.Nat.{ℕ}
use mathlib.Core.List.{List}
use lib.ListN.{length}
use lib.Seq.{take-length}
use Rattle.catalogue.specs.Choosing.{Choice}
use Rattle.row.specs.Machine.Choices.{Conf, conf}
use Rattle.promises.specs.Moments.{Given, at}
use Rattle.promises.specs.Promises.{NoLoop, NeverTorn, SoundAtRest}
use Rattle.promises.proofs.Lists.AtRest.{rest_sound}
use Rattle.promises.proofs.Lists.Live.{no_loop_here}
use Rattle.promises.proofs.Runs.Held.{Held}
use Rattle.promises.proofs.Runs.Sweeping.{untried}
use Rattle.promises.proofs.Runs.Next.{next}
use Rattle.promises.proofs.Runs.Schedule.{run}

-- the moment after all choices
pub held_at : (workers : ℕ) (choices : List Choice) → Given workers choices → (Y : Conf) × Held workers (at workers choices) Y
held_at workers choices g = let r = run workers choices g in (conf r.schedule (length choices), rw (take-length choices) at (r.held (length choices)))

pub no_loop : NoLoop
no_loop workers choices g k l e w =
    let z = held_at workers choices g in
    no_loop_here (at workers choices).catalogue z.0.world z.1.shows z.1.fine.good k l e w

pub never_torn : NeverTorn
never_torn workers choices g c q e = let z = held_at workers choices g in (next workers g.most (at workers choices) z.0 z.1 c q).whole e

pub sound_at_rest : SoundAtRest
sound_at_rest workers choices g asks e =
    let z = held_at workers choices g in
    let h = z.1 in
    rest_sound (at workers choices).catalogue z.0.world h.shows h.fine.good asks
    (λ r. untried workers (at workers choices) z.0 h g.most (e r))
