-- Document 01, "The steps", the paragraph on TORN, and "Sweep and listing", its first paragraph.
use Rattle.std.specs.Prelude.{◌≡◌, refl, map, pos}
use Rattle.catalogue.specs.Workers.{bare, idle_table, put}
use Rattle.catalogue.specs.Calls.{step}
use Rattle.catalogue.specs.Listing.{list_into}
use Rattle.catalogue.specs.Choosing.{after}
use Rattle.catalogue.specs.Examples.Rows.{found, in_trial}
use Rattle.catalogue.specs.Examples.Torn.{answered, stated, whole, table}
use Rattle.catalogue.specs.declared.workers.Place.TheVariants.{ConV}

pub checked : map answered table ≡ map stated table
unfolding found after list_into
checked = refl

-- A step writes zeros to what its new place has no use for, whatever stood there.
pub cleared : (step whole (put (idle_table 1) 0 (in_trial (ConV (pos 7) 2) 1 2)) 0).table ≡ put (idle_table 1) 0 (bare (ConV (pos 7) 3))
unfolding found after
cleared = refl
