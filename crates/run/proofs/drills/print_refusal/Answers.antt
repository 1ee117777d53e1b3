use Rattle.run.proofs.Drilled.{refusal_cases}
use Rattle.run.proofs.drills.print_refusal.Goals as goal

pub returns-clause-output_after : goal.returns-clause-output_after
returns-clause-output_after c = search refusal_cases
