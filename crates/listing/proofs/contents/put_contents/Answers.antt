-- The two counts are those of the definition, and small enough to be written.
use Rattle.listing.proofs.Results.{contents_cases}
use Rattle.listing.proofs.contents.put_contents.Goals as goal

pub overflow_cast-vertices : goal.overflow_cast-vertices
overflow_cast-vertices c = search contents_cases

pub overflow_cast-edges : goal.overflow_cast-edges
overflow_cast-edges c = search contents_cases

pub returns-clause-upper_bound : goal.returns-clause-upper_bound
returns-clause-upper_bound c = search contents_cases
