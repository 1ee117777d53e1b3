-- After every choice of the host the machine has a choice of its own: by the kind of the choice.
use Prim.Native.Nat.{ℕ, ◌≤◌}
use Rattle.catalogue.specs.Choosing.{Choice, takes, steps, sweeps, Moment, choose}
use Rattle.row.specs.Machine.Choices.{Conf, act}
use Rattle.row.specs.Machine.Choices
use Rattle.promises.specs.Moments.{Keyed}
use Rattle.promises.specs.Histories.{taken_up, answered_by}
use Rattle.promises.specs.Promises.{RefusedTorn}
use Rattle.promises.proofs.Runs.Telling.{Same}
use Rattle.promises.proofs.Runs.Held.{Held}
use Rattle.promises.proofs.Runs.Stepping.{steps_done}
use Rattle.promises.proofs.Runs.Taking.{takes_done}
use Rattle.promises.proofs.Runs.Sweeping.{sweeps_done}

-- the machine's choice, what is held after it, and that both report the same
pub record Next (workers : ℕ) (m : Moment) (X : Conf) (c : Choice) : Type 0 where
  pub choice : Choices.Choice
  pub held : Held workers (choose m c).moment (act X choice)
  pub same : Same X choice (taken_up m c) (λ b. answered_by b m c)
  pub whole : RefusedTorn m c → ⊥

pub next : (workers : ℕ) → workers ≤ 8 → (m : Moment) (X : Conf) → Held workers m X → (c : Choice) → Keyed c → Next workers m X c
next workers most m X h (takes w q) keys =
    let d = takes_done workers m X h most w q keys in
    record { choice = d.choice; held = d.held; same = d.same; whole = d.whole }
next workers most m X h (steps w) q =
    let d = steps_done workers m X h most w in
    record { choice = d.choice; held = d.held; same = d.same; whole = d.whole }
next workers most m X h sweeps q =
    let d = sweeps_done workers m X h most in
    record { choice = d.choice; held = d.held; same = d.same; whole = d.whole }
