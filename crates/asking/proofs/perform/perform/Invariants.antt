-- Each turn keeps what the request comes to.
use Rattle.std.proofs.Common.{◌≡◌, ◌-◌}
use Rattle.asking.specs.Asked.{ask_on, asked}
use Rattle.catalogue.specs.Lent.{memory_of}
use Rattle.catalogue.specs.Workers.{asks}
use Rattle.asking.proofs.AskLaws.{At}
use Rattle.asking.proofs.perform.perform.Given as goal

abbrev pub invariant-loop-steps : goal.invariant-loop-steps
invariant-loop-steps l = ask_on (10000 - l.steps) (At l.keys l.words l.table l.number) ≡ asked (memory_of l.initial.keys l.initial.words) (asks l.code l.k l.l)
