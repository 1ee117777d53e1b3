-- The fuel falls at each node, and each node is counted where the definition keeps it.
use Rattle.listing.proofs.walks.+count_added.Given as goal

abbrev pub decreases-count_added : goal.decreases-count_added
decreases-count_added l = l.fuel
