-- The walk goes on from the next node; its node joins what was met there, whether all of it is sound or not.
use Rattle.survey.proofs.WalkLaws.{from_on, from_stop}
use Rattle.survey.proofs.walks.+walk_from.Goals as goal

pub returns-in-Ok : goal.returns-in-Ok
returns-in-Ok t c = search (from_on, c.in-Ok.is)

pub returns-in-Err : goal.returns-in-Err
returns-in-Err t c = search (from_stop, c.in-Err.is)
