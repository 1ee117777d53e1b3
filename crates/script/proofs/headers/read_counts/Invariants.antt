-- Each count joins those before it; the number after all counts ends the line.
use Rattle.script.proofs.CountLaws.{Counting}
use Rattle.script.proofs.headers.read_counts.Given as goal

abbrev pub invariant-loop-i : goal.invariant-loop-i
invariant-loop-i l = Counting l.text l.workers l.at l.i l.total l.place l.counts
