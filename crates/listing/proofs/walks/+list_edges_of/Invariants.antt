-- The fuel falls at each node, whose line is put where the definition keeps it.
use Rattle.listing.proofs.walks.+list_edges_of.Given as goal

abbrev pub decreases-list_edges_of : goal.decreases-list_edges_of
decreases-list_edges_of l = l.fuel
