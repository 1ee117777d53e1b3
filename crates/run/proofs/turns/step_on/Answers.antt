-- The step of the record is the step of its worker: the checks before it are those that were asked for.
use mathlib.Core.Path.{refl, ap, ◌∙◌}
use Rattle.catalogue.specs.Workers.{busy_at}
use Rattle.calls.proofs.Stepping.{left_stepped}
use Rattle.run.proofs.TurnLaws.{is_sized}
use Rattle.run.proofs.turns.step_on.Goals as goal

pub returns : goal.returns
returns c =
    left_stepped _ _ _ _ _ (is_sized _ _ (record { keyed = c.told-keys; worded = c.told-words })) c.requires.worker_value
    _ _ _ _ _ (ap (λ w. busy_at w.place) c.worker_at-w.ensures ∙ c.requires.worker_value_2) c.worker_at-w.ensures c.step_through-s.ensures.value c.put-after.ensures refl c.step_through-s.ensures.hold
