-- The loop keeps that the turns left are the question that was asked.
use Rattle.script.specs.Turns.{turns_at}
use mathlib.Core.Path.{◌≡◌}
use Prim.Native.Nat.{◌-◌}
use Rattle.script.proofs.turns.check_turns.Given as goal

abbrev pub invariant-loop-i : goal.invariant-loop-i
invariant-loop-i l = turns_at l.workers (l.turns - l.i) l.text l.place ≡ turns_at l.workers l.turns l.text l.at
