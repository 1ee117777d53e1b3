-- The line that the drill prints for a script that is refused.
use Rattle.std.specs.Prelude.{ℕ, List}
use Rattle.catalogue.specs.Drill.{printed}
use Rattle.catalogue.specs.Script.{bad}

abbrev pub refusal_text : ℕ → List ℕ
refusal_text line = printed (bad line)
