-- The bit is clear, so that the sum sets it and fits its word.
use Rattle.laws.proofs.MetLaws.{adding}
use Rattle.workers.proofs.met.with_met.Goals as goal

pub overflow_add-next : goal.overflow_add-next
overflow_add-next c = search adding

pub returns : goal.returns
returns c = search adding
