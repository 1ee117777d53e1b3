-- A worker's record after a choice: it is the same, or the worker has taken its step, or it has taken up a request.
use Prim.Native.Nat.{ℕ, ◌<◌}
use mathlib.Core.Bool.{false}
use mathlib.Core.Logic.{inl, inr}
use mathlib.Core.Path.{◌≡◌, refl, sym}
use native.Mathlib.Omega.{arith}
use lib.ListN.{length}
use lib.Seq.{get_or-set_same, get_or-set_other}
use Rattle.catalogue.specs.Calls.{After}
use Rattle.catalogue.specs.Choosing.{Choice, takes, steps, sweeps, Moment, choose}
use Rattle.catalogue.specs.Workers.{bare, blank, worker_at, put}
use Rattle.catalogue.specs.Steps.Places.{first_place}
use Rattle.catalogue.specs.Steps.Decide.{decide, record_after}
use Rattle.catalogue.specs.declared.steps.Decision.{Decision}
use Rattle.catalogue.specs.declared.workers.Table.{Table}
use Rattle.catalogue.specs.declared.workers.Worker.{Worker}
use Rattle.row.proofs.Base.{same?}
use Rattle.promises.proofs.Fates.Told.{trying}
use Rattle.promises.proofs.Fates.Places.{to_first}
use Rattle.promises.proofs.Outside.Replies.{refused, done, carried}
use Rattle.laws.proofs.Admits.{take_up_both}

pub data Passed (m : Moment) (c : Choice) (w : ℕ) (r : Worker) : Type 0 where
  same : r ≡ worker_at m.table w → Passed m c w r
  stepped : c ≡ steps w → (d : Decision) → decide m.catalogue (worker_at m.table w) ≡ d → r ≡ record_after (worker_at m.table w) d
      → Passed m c w r
  took_up : trying r.place ≡ false → Passed m c w r

module _ (m : Moment) (w : ℕ) (there : w < length m.table.workers) where
  abbrev P : Choice → Table → Type 0
  P c t = Passed m c w (worker_at t w)

  -- one record is replaced
  replaced : (c : Choice) (v : ℕ) (r : Worker) → (v ≡ w → Passed m c w r) → P c (put m.table v r)
  replaced c v r f =
      elim (same? w v) [
        | inl e ↦ rw (e, get_or-set_same m.table.workers v r blank (omega arith)) (rw e at (f (sym e)))
        | inr n ↦ same (get_or-set_other m.table.workers v w r blank n)
      ]

  pub passed : (c : Choice) → Passed m c w (worker_at (choose m c).moment.table w)
  passed (takes v q) =
      take_up_both m.catalogue m.table v q (λ (a : After). P (takes v q) a.table) (λ r why. same refl)
      (λ e first a. replaced (takes v q) v (bare (first_place q first)) (λ e. took_up (to_first q first)))
  passed (steps v) =
      elim (carried m.catalogue m.table v) [
        | refused r e ↦ rw e (same refl)
        | done d e f ↦ rw f (replaced (steps v) v (record_after (worker_at m.table v) d) (λ q. rw (← q) (stepped refl d e refl)))
      ]
  passed sweeps = same refl
