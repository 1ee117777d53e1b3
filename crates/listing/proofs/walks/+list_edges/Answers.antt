-- The fuel falls at each node, and the lines of its edges are put where the definition keeps it.
use Rattle.listing.proofs.Listed.{gather_cases, edges_put}
use Rattle.listing.proofs.walks.+list_edges.Goals as goal

pub returns-then-fuel-eq0-clause-output_after : goal.returns-then-fuel-eq0-clause-output_after
returns-then-fuel-eq0-clause-output_after t c = search gather_cases

pub returns-then-fuel-eq0-clause-value : goal.returns-then-fuel-eq0-clause-value
returns-then-fuel-eq0-clause-value t c = search gather_cases

pub returns-then-x-eq1-clause-output_after : goal.returns-then-x-eq1-clause-output_after
returns-then-x-eq1-clause-output_after t c = search gather_cases

pub returns-then-x-eq1-clause-value : goal.returns-then-x-eq1-clause-value
returns-then-x-eq1-clause-value t c = search gather_cases

pub list_edges_of-end-requires : goal.list_edges_of-end-requires
list_edges_of-end-requires t c = search gather_cases

pub list_edges-requires : goal.list_edges-requires
list_edges-requires t c = search gather_cases

pub returns-then-unmarked-clause-output_after : goal.returns-then-unmarked-clause-output_after
returns-then-unmarked-clause-output_after t c = search edges_put

pub returns-then-unmarked-clause-value : goal.returns-then-unmarked-clause-value
returns-then-unmarked-clause-value t c = search edges_put

pub returns-then-unmarked-clause-upper_bound : goal.returns-then-unmarked-clause-upper_bound
returns-then-unmarked-clause-upper_bound t c = search gather_cases

pub list_edges-requires-2 : goal.list_edges-requires-2
list_edges-requires-2 t c = search gather_cases

pub returns-clause-output_after : goal.returns-clause-output_after
returns-clause-output_after t c = search gather_cases

pub returns-clause-value : goal.returns-clause-value
returns-clause-value t c = search gather_cases

pub returns-clause-upper_bound : goal.returns-clause-upper_bound
returns-clause-upper_bound t c = search gather_cases
