-- Nothing is counted yet.
use Rattle.std.proofs.Common.{refl}
use Rattle.asking.specs.Tallies.{none}
use Rattle.asking.proofs.tally.none.Goals as goal

pub returns : goal.returns
unfolding none
returns c = refl
