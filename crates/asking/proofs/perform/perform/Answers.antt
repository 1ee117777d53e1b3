-- The loop keeps what the request comes to, and ends where it is answered or no step is left.
use Rattle.std.proofs.Common.{ap₂, to_z-of_z, arith}
use Rattle.catalogue.specs.Workers.{asks}
use Rattle.asking.proofs.AskLaws.{ask_starts, ask_again, ask_answered, ask_spent}
use Rattle.asking.proofs.perform.perform.Goals as goal

pub loop-steps-init : goal.loop-steps-init
loop-steps-init c = ask_starts _ _ _ _ _ _ c.idle_table.ensures c.take_up-taken.ensures c.answer_number-number.ensures

pub returns-then-number-ne0 : goal.returns-then-number-ne0
returns-then-number-ne0 c =
    ask_answered _ _ _ _ _ _ c.loop-steps.invariant (ap₂ (asks _) (to_z-of_z c.ranges.k) (to_z-of_z c.ranges.l)) c.loop-steps-test.true c.if-number-ne0.true

pub loop-steps-preserved : goal.loop-steps-preserved
loop-steps-preserved c =
    ask_again _ _ _ _ _ _ _ _ _ _ c.loop-steps.invariant c.loop-steps-test.true c.if-number-ne0.false c.step-outcome.ensures.0 c.step-outcome.ensures.1.0
    c.step-outcome.ensures.1.1 c.answer_number-number-in-loop-steps.ensures

pub returns : goal.returns
returns c = ask_spent _ _ _ _ _ _ c.loop-steps.invariant (ap₂ (asks _) (to_z-of_z c.ranges.k) (to_z-of_z c.ranges.l)) (omega arith)
