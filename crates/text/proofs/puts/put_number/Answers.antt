-- The sign chooses the case of the definition, and the magnitude's digits follow.
use Rattle.text.proofs.Signs.{signs}
use Rattle.text.proofs.puts.put_number.Goals as goal

pub returns-then-n-lt0-clause-output_after : goal.returns-then-n-lt0-clause-output_after
returns-then-n-lt0-clause-output_after c = search signs

pub returns-then-n-lt0-clause-value : goal.returns-then-n-lt0-clause-value
returns-then-n-lt0-clause-value c = search signs

pub returns-clause-output_after : goal.returns-clause-output_after
returns-clause-output_after c = search signs

pub returns-clause-value : goal.returns-clause-value
returns-clause-value c = search signs
