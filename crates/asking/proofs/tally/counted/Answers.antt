-- The arm of the reply is the case of the definition.
use Rattle.asking.proofs.TallyLaws.{tally_cases}
use Rattle.asking.proofs.tally.counted.Goals as goal

pub returns-in-1 : goal.returns-in-1
returns-in-1 c = search tally_cases

pub returns-in-9 : goal.returns-in-9
returns-in-9 c = search tally_cases

pub returns-in_default : goal.returns-in_default
returns-in_default c = search tally_cases
