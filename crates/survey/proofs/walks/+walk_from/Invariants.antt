-- Each way out is a clause of the walk; a call is at one node less.
use Rattle.survey.proofs.walks.+walk_from.Given as goal

abbrev pub decreases-walk_from : goal.decreases-walk_from
decreases-walk_from l = l.left
