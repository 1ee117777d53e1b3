-- The set of a sound walk is ready to answer for targets.
use Rattle.survey.proofs.MetLaws.{ready}
use Rattle.survey.proofs.soundness.sound.Goals as goal

pub invariant_of-lists_from : goal.invariant_of-lists_from
invariant_of-lists_from c = search ready
