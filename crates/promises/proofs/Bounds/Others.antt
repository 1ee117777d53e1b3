-- Every choice but a busy worker's own step keeps that worker where it stands, and keeps the lists.
use Prim.Native.Nat.{ℕ, ◌≤◌, ◌<◌}
use mathlib.Core.Bool.{true, false}
use mathlib.Core.Path.{◌≡◌, refl, sym}
use borrow.Author.Tests.{eqb-false}
use Rattle.catalogue.specs.Calls.{After, count_fits, take_up, step}
use Rattle.catalogue.specs.Choosing.{Choice, takes, steps, sweeps, Moment, choose}
use Rattle.catalogue.specs.Sweep.{AfterSweep, sweep_into, any_busy}
use Rattle.catalogue.specs.Workers.{busy}
use Rattle.laws.proofs.Picks.{pick_both, clash}
use Rattle.row.proofs.Base.{upd_other}
use Rattle.row.specs.Machine.Choices
use Rattle.row.specs.Machine.Choices.{Conf, act}
use Rattle.row.proofs.Events.Fine.{Both, act_both}
use Rattle.row.proofs.Steps.Writes.{deed_rest}
use Rattle.promises.specs.Moments.{Keyed, Fitting}
use Rattle.promises.specs.Bounds.{lets}
use Rattle.promises.proofs.Runs.Held.{Held}
use Rattle.promises.proofs.Runs.Sweeping.{idle_below}
use Rattle.promises.proofs.Runs.Stepping.{stepping_both}
use Rattle.promises.proofs.Runs.Taking.{taking_both, begins}
use Rattle.catalogue.specs.declared.workers.Request.{Request}

-- another choice: w stands where it stood
pub record Passes (workers : ℕ) (m : Moment) (X : Conf) (w : ℕ) : Type 0 where
  pub conf : Conf
  pub held : Held workers m conf
  pub same : conf.at w ≡ X.at w
  pub both : Both X.world conf.world

module _ (workers : ℕ) (m : Moment) (X : Conf) (h : Held workers m X) (most : workers ≤ 8) (w : ℕ) where
  still : Both X.world X.world
  still = let d = deed_rest X.world h.fine.good 0 in record { vm = d.vmoves; em = d.emoves }

  -- nothing changes
  unchanged : Passes workers m X w
  unchanged = record { conf = X; held = h; same = refl; both = still }

  abbrev AfterCall : After → Type 0
  AfterCall a = Passes workers (record { catalogue = a.catalogue; table = a.table }) X w

  steps_by : (v : ℕ) → (w ≡ v → ⊥) → AfterCall (step m.catalogue m.table v)
  steps_by v n =
      stepping_both workers m X h most v AfterCall (λ r t. unchanged)
      (λ c. record {
        conf = act X (Choices.steps v);
        held = c.held;
        same = upd_other X.at v _ w n;
        both = act_both X h.fine (Choices.steps v) (λ W z. clash (cc));
      })

  takes_by : busy m.table w ≡ true → (v : ℕ) (q : Request) → Fitting q → AfterCall (take_up m.catalogue m.table v q)
  takes_by b v q keys =
      taking_both workers m X h most v q AfterCall (λ r t. unchanged)
      (λ f.
      let z = begins workers m X h most v q keys f in
      let i = f.1.idle in
      record { conf = _; held = z.held; same = upd_other X.at v _ w (λ e. clash (cc)); both = still })

  sweeps_by : w < workers → busy m.table w ≡ true → Passes workers (choose m sweeps).moment X w
  unfolding sweep_into
  sweeps_by low b =
      pick_both LeftSweep (count_fits m.table.count) _ _
      (λ e. pick_both LeftSweep (any_busy m.table m.table.count) _ _ (λ i. unchanged)
      (λ i. clash (cc (idle_below m.table m.table.count i w (rw h.counted low)))))
      (λ e. unchanged)
    where
      LeftSweep : AfterSweep → Type 0
      LeftSweep a = Passes workers (record { catalogue = a.second; table = m.table }) X w

  pub passes : w < workers → busy m.table w ≡ true → (c : Choice) → Keyed c → lets w c ≡ false → Passes workers (choose m c).moment X w
  passes low b (takes v q) keys n = takes_by b v q keys
  passes low b (steps v) q n = steps_by v (λ e. eqb-false v w n (sym e))
  passes low b sweeps q n = sweeps_by low b
