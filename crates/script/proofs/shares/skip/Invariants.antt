-- The loop keeps that the lines left are the question that was asked.
use Rattle.script.proofs.ShareLaws.{Skipping}
use Rattle.script.proofs.shares.skip.Given as goal

abbrev pub invariant-loop-i : goal.invariant-loop-i
invariant-loop-i l = Skipping l.text l.at l.count l.line l.place l.i
