-- The last link is turned in the catalogue that has the edge already.
use mir.Facts.{to_z-of_z}
use Rattle.writing.proofs.Commits.{new_first_held}
use Rattle.writing.proofs.writes.new_first.Goals as goal

pub returns : goal.returns
returns c = search (new_first_held, to_z-of_z)
