-- Document 01, "Replies and refusals": each damaged call is refused with its number.
use Rattle.std.specs.Prelude.{refl}
use Rattle.catalogue.specs.Tests.{table_from}
use Rattle.catalogue.specs.Listing.{list_into}
use Rattle.catalogue.specs.Lent.{lay, sized, output_fits, lent_take_up, lent_listing, lent_run}
use Rattle.catalogue.specs.Choosing.{after}
use Rattle.catalogue.specs.Examples.Rows.{found}
use Rattle.catalogue.specs.Examples.Damaged.{AllRefused, left, left_lent, left_sweep, left_listing, left_run, table}

pub all_refused : AllRefused table
unfolding found left left_lent left_sweep left_listing left_run after lay sized output_fits lent_take_up lent_listing lent_run list_into table_from
all_refused = (refl, (refl, (refl, (refl, (refl, (refl, (refl, (refl, (refl, (refl, (refl, (refl, (refl, (refl, (refl, (refl, (refl, (refl, (refl, (refl, (refl, (refl, (refl, (refl, tt))))))))))))))))))))))))
