-- The loop keeps that the turns left, played from where the code stands, are the whole run.
use Rattle.run.proofs.Playing.{Playing}
use Rattle.run.proofs.plays.play.Given as goal

abbrev pub invariant-loop-done : goal.invariant-loop-done
invariant-loop-done l = Playing l.text l.fn.c l.keys l.words l.lines l.s l.place l.done
