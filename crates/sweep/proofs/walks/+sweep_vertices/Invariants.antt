-- The fuel falls at each vertex, which is made and numbered where the definition keeps it.
use Rattle.sweep.proofs.walks.+sweep_vertices.Given as goal

abbrev pub decreases-sweep_vertices : goal.decreases-sweep_vertices
decreases-sweep_vertices l = l.fuel
