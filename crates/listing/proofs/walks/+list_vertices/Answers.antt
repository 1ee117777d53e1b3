-- The fuel falls at each node, whose line is put where the definition keeps it.
use Rattle.listing.proofs.Listed.{list_cases}
use Rattle.listing.proofs.walks.+list_vertices.Goals as goal

pub returns-then-fuel-eq0-clause-output_after : goal.returns-then-fuel-eq0-clause-output_after
returns-then-fuel-eq0-clause-output_after t c = search list_cases

pub returns-then-fuel-eq0-clause-value : goal.returns-then-fuel-eq0-clause-value
returns-then-fuel-eq0-clause-value t c = search list_cases

pub returns-then-x-eq1-clause-output_after : goal.returns-then-x-eq1-clause-output_after
returns-then-x-eq1-clause-output_after t c = search list_cases

pub returns-then-x-eq1-clause-value : goal.returns-then-x-eq1-clause-value
returns-then-x-eq1-clause-value t c = search list_cases

pub list_vertices-requires : goal.list_vertices-requires
list_vertices-requires t c = search list_cases

pub returns-then-unmarked-clause-output_after : goal.returns-then-unmarked-clause-output_after
returns-then-unmarked-clause-output_after t c = search list_cases

pub returns-then-unmarked-clause-value : goal.returns-then-unmarked-clause-value
returns-then-unmarked-clause-value t c = search list_cases

pub returns-then-unmarked-clause-upper_bound : goal.returns-then-unmarked-clause-upper_bound
returns-then-unmarked-clause-upper_bound t c = search list_cases

pub returns-clause-output_after : goal.returns-clause-output_after
returns-clause-output_after t c = search list_cases

pub returns-clause-value : goal.returns-clause-value
returns-clause-value t c = search list_cases
