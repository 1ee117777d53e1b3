-- The test of the count is that of the definition.
use Rattle.laws.proofs.Ways.{ways}
use Rattle.sweep.specs.Built.{last_vertex}
use Rattle.sweep.proofs.nodes.last_vertex.Goals as goal

pub returns-then-n-eq0 : goal.returns-then-n-eq0
unfolding last_vertex
returns-then-n-eq0 c = search ways

pub returns : goal.returns
unfolding last_vertex
returns c = search ways
