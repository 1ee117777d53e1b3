-- A run begins with the empty graph: the live graph of the fresh catalogue is computed.
use mathlib.Core.Path.{◌≡◌, refl}
use Rattle.catalogue.specs.Catalogue.{fresh}
use Rattle.catalogue.specs.Choosing.{after}
use Rattle.catalogue.specs.Examples.Rows.{found}
use Rattle.promises.specs.Graphs.{empty, among, live}
use Rattle.promises.specs.Promises.{BeginsEmpty}

fresh_empty : live fresh ≡ empty
unfolding found among
fresh_empty = refl

pub begins_empty : BeginsEmpty
unfolding after
begins_empty workers choices = fresh_empty
