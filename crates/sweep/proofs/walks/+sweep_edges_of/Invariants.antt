-- The fuel falls at each edge, which is copied as the definition keeps it.
use Rattle.sweep.proofs.walks.+sweep_edges_of.Given as goal

abbrev pub decreases-sweep_edges_of : goal.decreases-sweep_edges_of
decreases-sweep_edges_of l = l.fuel
