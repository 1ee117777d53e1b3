-- Each arm calls the function of its kind, whose contract is the definition at that kind.
use Rattle.writing.proofs.Commits.{kinds}
use Rattle.writing.proofs.writes.commit.Goals as goal

pub returns-in-Nothing : goal.returns-in-Nothing
returns-in-Nothing c = search kinds

pub returns-in-VertexLink : goal.returns-in-VertexLink
returns-in-VertexLink c = search kinds

pub returns-in-FirstEdge : goal.returns-in-FirstEdge
returns-in-FirstEdge c = search kinds

pub returns-in-EdgeLink : goal.returns-in-EdgeLink
returns-in-EdgeLink c = search kinds
