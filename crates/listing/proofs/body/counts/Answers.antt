-- The walk of the call is the one of the definition.
use Rattle.listing.proofs.Whole.{whole_cases}
use Rattle.listing.proofs.body.counts.Goals as goal

pub returns-clause-vertices_value : goal.returns-clause-vertices_value
returns-clause-vertices_value c = search whole_cases

pub returns-clause-edges_value : goal.returns-clause-edges_value
returns-clause-edges_value c = search whole_cases
