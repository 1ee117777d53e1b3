-- The fuel falls at each edge, which is copied as the definition keeps it.
use Rattle.sweep.proofs.EdgeCases.{edge_cases}
use Rattle.sweep.proofs.walks.+sweep_edges_of.Goals as goal

pub returns-then-fuel-eq0-clause-value : goal.returns-then-fuel-eq0-clause-value
returns-then-fuel-eq0-clause-value t c = search edge_cases

pub returns-then-e-eq0-clause-value : goal.returns-then-e-eq0-clause-value
returns-then-e-eq0-clause-value t c = search edge_cases

pub sweep_edges_of-requires : goal.sweep_edges_of-requires
sweep_edges_of-requires t c = (search edge_cases, search edge_cases)

pub returns-clause-value : goal.returns-clause-value
returns-clause-value t c = search edge_cases
