-- Document 01, "Checked examples": P1 to P10.
use Rattle.std.specs.Prelude.{◌≡◌, refl, map}
use Rattle.catalogue.specs.Examples.Rows.{found, expected}
use Rattle.catalogue.specs.Examples.Checked.{table}

-- Each row gives what it must.
pub checked : map found table ≡ map expected table
unfolding found expected
checked = refl
