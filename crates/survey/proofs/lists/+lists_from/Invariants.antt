-- Each way out is a clause of the walk; a call is at one node less.
use Rattle.survey.proofs.lists.+lists_from.Given as goal

abbrev pub decreases-lists_from : goal.decreases-lists_from
decreases-lists_from l = l.left
