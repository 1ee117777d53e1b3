-- A number with a space after it and the line of the other three are the line of all.
use Rattle.text.proofs.Naturals.{natural_cases}
use Rattle.text.proofs.lines.put_four.Goals as goal

pub put_three-requires : goal.put_three-requires
put_three-requires c = search natural_cases

pub returns-clause-output_after : goal.returns-clause-output_after
returns-clause-output_after c = search natural_cases

pub returns-clause-value : goal.returns-clause-value
returns-clause-value c = search natural_cases
