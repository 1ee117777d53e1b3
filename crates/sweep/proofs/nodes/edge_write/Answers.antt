-- The test of p is that of the definition.
use Rattle.sweep.proofs.NodeLaws.{edge_written}
use Rattle.sweep.proofs.nodes.edge_write.Goals as goal

pub returns-then-p-eq0 : goal.returns-then-p-eq0
returns-then-p-eq0 c = search edge_written

pub returns : goal.returns
returns c = search edge_written
