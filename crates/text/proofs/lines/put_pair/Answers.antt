-- A number with a space after it and the line of the other are the line of both.
use Rattle.text.proofs.LineLaws.{line_cases}
use Rattle.text.proofs.lines.put_pair.Goals as goal

pub put_one-requires : goal.put_one-requires
put_one-requires c = search line_cases

pub returns-clause-output_after : goal.returns-clause-output_after
returns-clause-output_after c = search line_cases

pub returns-clause-value : goal.returns-clause-value
returns-clause-value c = search line_cases
