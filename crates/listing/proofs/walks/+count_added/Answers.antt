-- The fuel falls at each node, and each node is counted where the definition keeps it.
use Rattle.listing.proofs.Counts.{count_cases}
use Rattle.listing.proofs.walks.+count_added.Goals as goal

pub returns-then-fuel-eq0 : goal.returns-then-fuel-eq0
returns-then-fuel-eq0 t c = search count_cases

pub returns-then-e-eq0 : goal.returns-then-e-eq0
returns-then-e-eq0 t c = search count_cases

pub overflow_add-result : goal.overflow_add-result
overflow_add-result t c = search count_cases

pub returns-then-is_added : goal.returns-then-is_added
returns-then-is_added t c = search count_cases

pub returns : goal.returns
returns t c = search count_cases
