use Rattle.script.proofs.ShareLaws.{shares_on}
use Rattle.script.proofs.shares.read_shares.Goals as goal

pub loop-n-preserved : goal.loop-n-preserved
loop-n-preserved c = shares_on _ _ _ _ _ _ _ _ c.loop-n.invariant c.loop-n-test.true _ c.skip.ensures _ c.in_ok-place.was
