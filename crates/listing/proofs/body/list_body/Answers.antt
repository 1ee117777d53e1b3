-- The lines of the vertices, and after them those of the edges, are the lines of both.
use Rattle.listing.proofs.Whole.{whole_cases}
use Rattle.listing.proofs.body.list_body.Goals as goal

pub list_edges-requires : goal.list_edges-requires
list_edges-requires c = search whole_cases

pub returns-clause-output_after : goal.returns-clause-output_after
returns-clause-output_after c = search whole_cases

pub returns-clause-value : goal.returns-clause-value
returns-clause-value c = search whole_cases

pub returns-clause-upper_bound : goal.returns-clause-upper_bound
returns-clause-upper_bound c = search whole_cases
