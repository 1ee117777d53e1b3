-- The fuel falls at each node, whose line is put where the definition keeps it.
use Rattle.listing.proofs.Listed.{list_cases}
use Rattle.listing.proofs.walks.+list_edges_of.Goals as goal

pub returns-then-fuel-eq0-clause-output_after : goal.returns-then-fuel-eq0-clause-output_after
returns-then-fuel-eq0-clause-output_after t c = search list_cases

pub returns-then-fuel-eq0-clause-value : goal.returns-then-fuel-eq0-clause-value
returns-then-fuel-eq0-clause-value t c = search list_cases

pub returns-then-e-eq0-clause-output_after : goal.returns-then-e-eq0-clause-output_after
returns-then-e-eq0-clause-output_after t c = search list_cases

pub returns-then-e-eq0-clause-value : goal.returns-then-e-eq0-clause-value
returns-then-e-eq0-clause-value t c = search list_cases

pub edge_key-key-requires : goal.edge_key-key-requires
edge_key-key-requires t c = search list_cases

pub put_pair-end-requires : goal.put_pair-end-requires
put_pair-end-requires t c = search list_cases

pub list_edges_of-requires : goal.list_edges_of-requires
list_edges_of-requires t c = search list_cases

pub returns-then-is_live-clause-output_after : goal.returns-then-is_live-clause-output_after
returns-then-is_live-clause-output_after t c = search list_cases

pub returns-then-is_live-clause-value : goal.returns-then-is_live-clause-value
returns-then-is_live-clause-value t c = search list_cases

pub returns-then-is_live-clause-upper_bound : goal.returns-then-is_live-clause-upper_bound
returns-then-is_live-clause-upper_bound t c = search list_cases

pub list_edges_of-requires-2 : goal.list_edges_of-requires-2
list_edges_of-requires-2 t c = search list_cases

pub returns-clause-output_after : goal.returns-clause-output_after
returns-clause-output_after t c = search list_cases

pub returns-clause-value : goal.returns-clause-value
returns-clause-value t c = search list_cases

pub returns-clause-upper_bound : goal.returns-clause-upper_bound
returns-clause-upper_bound t c = search list_cases
