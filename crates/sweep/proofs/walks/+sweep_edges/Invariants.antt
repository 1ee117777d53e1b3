-- The fuel falls at each vertex, whose list is made where the definition keeps it.
use Rattle.sweep.proofs.walks.+sweep_edges.Given as goal

abbrev pub decreases-sweep_edges : goal.decreases-sweep_edges
decreases-sweep_edges l = l.fuel
