-- A number with a space after it and one with the line's end after it are the line of both.
use Rattle.text.proofs.Naturals.{natural_cases}
use Rattle.text.proofs.lines.put_two.Goals as goal

pub put_natural_followed-requires : goal.put_natural_followed-requires
put_natural_followed-requires c = search natural_cases

pub returns-clause-output_after : goal.returns-clause-output_after
returns-clause-output_after c = search natural_cases

pub returns-clause-value : goal.returns-clause-value
returns-clause-value c = search natural_cases
