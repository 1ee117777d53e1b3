-- The fuel falls at each node, whose line is put where the definition keeps it.
use Rattle.listing.proofs.walks.+list_vertices.Given as goal

abbrev pub decreases-list_vertices : goal.decreases-list_vertices
decreases-list_vertices l = l.fuel
