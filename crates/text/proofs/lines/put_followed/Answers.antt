-- The number and the byte after it are one run.
use Rattle.text.proofs.LineLaws.{line_cases}
use Rattle.text.proofs.lines.put_followed.Goals as goal

pub put_byte-requires : goal.put_byte-requires
put_byte-requires c = search line_cases

pub returns-clause-output_after : goal.returns-clause-output_after
returns-clause-output_after c = search line_cases
