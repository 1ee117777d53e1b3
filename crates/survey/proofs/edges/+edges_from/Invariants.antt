-- Each way out is a clause of the walk; a call is at one node less.
use Rattle.survey.proofs.edges.+edges_from.Given as goal

abbrev pub decreases-edges_from : goal.decreases-edges_from
decreases-edges_from l = l.left
