use Rattle.script.proofs.CountLaws.{counting_none, counting_on}
use Rattle.script.proofs.headers.read_counts.Goals as goal

pub loop-i-init : goal.loop-i-init
loop-i-init c = counting_none _ _ _ c.requires.at_least_one c.requires.workers_bound

pub loop-i-preserved : goal.loop-i-preserved
loop-i-preserved c = counting_on _ _ _ _ _ _ _ c.loop-i.invariant _ c.read_number.ensures _ c.in_ok-n.was c.loop-i-test.true c.if-n.false c.if-total-n.false
