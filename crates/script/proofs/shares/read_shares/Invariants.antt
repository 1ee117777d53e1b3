-- Each worker's lines are skipped, and its start joins those of the workers before it.
use Rattle.script.proofs.ShareLaws.{asked, Shared}
use Rattle.script.proofs.shares.read_shares.Given as goal

abbrev pub invariant-loop-n : goal.invariant-loop-n
invariant-loop-n l = Shared (asked l.text l.workers l.counts l.w l.line l.at l.fn.before) l.text l.workers l.counts l.n l.first l.place l.shares
