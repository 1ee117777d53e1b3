-- The last link is turned in the catalogue that has the vertex already.
use mir.Facts.{to_z-of_z}
use Rattle.writing.proofs.Commits.{new_vertex_held}
use Rattle.writing.proofs.writes.new_vertex.Goals as goal

pub returns : goal.returns
returns c = search (new_vertex_held, to_z-of_z)
