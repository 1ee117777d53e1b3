-- The last way out, past all five tests.
use Rattle.laws.proofs.Ways.{ways}
use Rattle.catalogue.specs.Steps.Vertices.{see_vertex}
use Rattle.vertices.proofs.look.see_vertex.Goals as goal

pub returns : goal.returns
unfolding see_vertex
returns c = search ways
