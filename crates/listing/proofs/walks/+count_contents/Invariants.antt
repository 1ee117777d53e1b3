-- The fuel falls at each node, and where the definition keeps it, it and its edges are counted.
use Rattle.listing.proofs.walks.+count_contents.Given as goal

abbrev pub decreases-count_contents : goal.decreases-count_contents
decreases-count_contents l = l.fuel
