-- Words of another size are enough for the refusal.
use Rattle.memory.proofs.Sizes.{unworded}
use Rattle.memory.proofs.checks.lend.Goals as goal

pub returns-in_default-as_array : goal.returns-in_default-as_array
returns-in_default-as_array c = search (unworded, c.in_default-as_array.ensures.cases)
