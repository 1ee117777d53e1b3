-- The fuel falls at each node, and where the definition keeps it, it and its edges are counted.
use Rattle.listing.proofs.Counts.{contents_counts}
use Rattle.listing.proofs.walks.+count_contents.Goals as goal

pub returns-then-fuel-eq0-clause-vertices_value : goal.returns-then-fuel-eq0-clause-vertices_value
returns-then-fuel-eq0-clause-vertices_value t c = search contents_counts

pub returns-then-fuel-eq0-clause-edges_value : goal.returns-then-fuel-eq0-clause-edges_value
returns-then-fuel-eq0-clause-edges_value t c = search contents_counts

pub returns-then-x-eq1-clause-vertices_value : goal.returns-then-x-eq1-clause-vertices_value
returns-then-x-eq1-clause-vertices_value t c = search contents_counts

pub returns-then-x-eq1-clause-edges_value : goal.returns-then-x-eq1-clause-edges_value
returns-then-x-eq1-clause-edges_value t c = search contents_counts

pub overflow_add-vertices : goal.overflow_add-vertices
overflow_add-vertices t c = search contents_counts

pub overflow_add-edges : goal.overflow_add-edges
overflow_add-edges t c = search contents_counts

pub returns-then-unmarked-clause-vertices_value : goal.returns-then-unmarked-clause-vertices_value
returns-then-unmarked-clause-vertices_value t c = search contents_counts

pub returns-then-unmarked-clause-edges_value : goal.returns-then-unmarked-clause-edges_value
returns-then-unmarked-clause-edges_value t c = search contents_counts

pub returns-clause-vertices_value : goal.returns-clause-vertices_value
returns-clause-vertices_value t c = search contents_counts

pub returns-clause-edges_value : goal.returns-clause-edges_value
returns-clause-edges_value t c = search contents_counts
