-- Two commits, of which the second makes the new edge ADDED.
use Rattle.sweep.proofs.NodeLaws.{edge_writable}
use Rattle.std.proofs.Common.{rules}
use Rattle.sweep.proofs.nodes.add_edge.Goals as goal

pub commit-requires : goal.commit-requires
commit-requires c = search (edge_writable, rules)
