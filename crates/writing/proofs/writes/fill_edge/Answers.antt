-- The stores of key, target, link and count are those of the catalogue with the edge.
use mir.Facts.{to_z-of_z}
use Rattle.writing.proofs.Commits.{fill_edge_held}
use Rattle.writing.proofs.writes.fill_edge.Goals as goal

pub returns : goal.returns
returns c = search (fill_edge_held, to_z-of_z)
