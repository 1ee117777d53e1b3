-- A number with the line's end after it is a line.
use Rattle.text.proofs.LineLaws.{line_cases}
use Rattle.text.proofs.lines.put_one.Goals as goal

pub returns-clause-output_after : goal.returns-clause-output_after
returns-clause-output_after c = search line_cases

pub returns-clause-value : goal.returns-clause-value
returns-clause-value c = search line_cases
