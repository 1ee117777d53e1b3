-- A set of zero words holds no number, so that v can be added to it.
use Rattle.laws.proofs.MetLaws.{none_met}
use Rattle.workers.proofs.records.begun.Goals as goal

pub meet-requires-clause-n_value : goal.meet-requires-clause-n_value
meet-requires-clause-n_value c = rw c.no_reach.ensures (none_met c.args.v)
