-- What becomes of the one record that a call reads and stores back.
use Rattle.std.specs.Prelude.{Result, Ok, Err}
use Rattle.catalogue.specs.Workers.{bare}
use Rattle.catalogue.specs.declared.answers.Answer.{Answer}
use Rattle.catalogue.specs.declared.answers.Answer.TheVariants.{Going}
use Rattle.catalogue.specs.declared.answers.Refusal.{Refusal}
use Rattle.catalogue.specs.declared.workers.Place.{Place}
use Rattle.catalogue.specs.declared.workers.Worker.{Worker}
use Rattle.border.specs.Kept.{record_of}
use Rattle.border.specs.Packing.{packed_answer}
use Rattle.border.specs.declared.kept.Record.{Record}
use Rattle.host.specs.declared.one.Moved.{Moved}

unfoldable pub refused : Record → Refusal → Moved
refused r refusal = record { kept = r; told = packed_answer (Err refusal) }

unfoldable pub moved : Worker → Answer → Moved
moved w answer = record { kept = record_of w; told = packed_answer (Ok answer) }

-- a step that has decided: a refusal keeps the record unchanged
abbrev pub settled : Record → Worker → Result Answer Refusal → Moved
settled r w (Ok a) = moved w a
settled r w (Err why) = refused r why

-- the worker where its request begins, or a refusal
abbrev pub entered : Record → Result Place Refusal → Moved
entered r (Ok place) = moved (bare place) (Going 0)
entered r (Err why) = refused r why
