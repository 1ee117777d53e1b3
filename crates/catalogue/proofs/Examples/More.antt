-- Examples beside P1 to P10.
use Rattle.std.specs.Prelude.{◌≡◌, refl, map}
use Rattle.catalogue.specs.Script.{good, script_text, read_script}
use Rattle.catalogue.specs.Examples.Rows.{bytes, found, expected}
use Rattle.catalogue.specs.Examples.More.{written_script, table}

pub written_out : script_text written_script ≡ bytes "2 1 1 3\n3 -7\n4 0 -1\n1 0 1\n"
unfolding found script_text
written_out = refl

pub read_back : read_script (script_text written_script) ≡ good written_script
unfolding found script_text
read_back = refl

pub checked : map found table ≡ map expected table
unfolding found expected
checked = refl
