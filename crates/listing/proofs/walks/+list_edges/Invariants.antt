-- The fuel falls at each node, and the lines of its edges are put where the definition keeps it.
use Rattle.listing.proofs.walks.+list_edges.Given as goal

abbrev pub decreases-list_edges : goal.decreases-list_edges
decreases-list_edges l = l.fuel
