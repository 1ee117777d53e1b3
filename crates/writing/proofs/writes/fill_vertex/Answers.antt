-- The stores of key, link, first edge and count are those of the catalogue with the vertex.
use mir.Facts.{to_z-of_z}
use Rattle.writing.proofs.Commits.{fill_vertex_held}
use Rattle.writing.proofs.writes.fill_vertex.Goals as goal

pub returns : goal.returns
returns c = search (fill_vertex_held, to_z-of_z)
