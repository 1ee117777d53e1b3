use Rattle.run.proofs.Drilled.{drill_cases}
use Rattle.run.proofs.drills.drill.Goals as goal

pub returns-in-Ok-clause-output_after : goal.returns-in-Ok-clause-output_after
returns-in-Ok-clause-output_after c = search drill_cases

pub returns-in-Ok-clause-upper_bound : goal.returns-in-Ok-clause-upper_bound
returns-in-Ok-clause-upper_bound c = search drill_cases

pub returns-in-Err-BadScript-clause-output_after : goal.returns-in-Err-BadScript-clause-output_after
returns-in-Err-BadScript-clause-output_after c = search drill_cases

pub returns-in-Err-Refused-clause-output_after : goal.returns-in-Err-Refused-clause-output_after
returns-in-Err-Refused-clause-output_after c = absurd (search drill_cases)
