-- Each part is written where the one before it ends.
use Rattle.run.proofs.Printing.{printing}
use Rattle.run.proofs.prints.print.Goals as goal

pub returns-clause-output_after : goal.returns-clause-output_after
returns-clause-output_after c = search printing
