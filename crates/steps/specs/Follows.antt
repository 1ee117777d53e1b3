-- What a decision needs, by its case: a write within the pools, queue room for a vertex not yet met, or a front.
-- Every decision that is made of a record has it.
use Rattle.std.specs.Prelude.{◌<◌, false, ◌≡◌}
use Rattle.catalogue.specs.Workers.{has}
use Rattle.catalogue.specs.declared.workers.Worker.{Worker}
use Rattle.catalogue.specs.declared.steps.Decision.{Decision}
use Rattle.catalogue.specs.declared.steps.Decision.TheVariants.{Torn, Code, Going, Begins, Keeps, Meets, Takes, Reply}
use Rattle.memory.specs.Memories.{Writable}

abbrev pub Follows : Worker → Decision → Type 0
Follows w Torn = Unit {0}
Follows w Code = Unit {0}
Follows w (Going next write) = Writable write
Follows w (Begins next write v) = Writable write
Follows w (Keeps next) = Unit {0}
Follows w (Meets next y) = (w.reach.back < 256) × (has w.reach.met y ≡ false)
Follows w (Takes next) = w.reach.front < 256
Follows w (Reply number write) = Writable write
