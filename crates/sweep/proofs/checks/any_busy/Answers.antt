-- One of the workers below n is busy as the definition says, whichever is looked at first.
use Rattle.std.proofs.Common.{rules, arith, ◌∙◌, take}
use Rattle.std.proofs.lemmas.Iterator.Search.{any_from_yields_List}
use Rattle.std.proofs.lemmas.Iterator.{YieldsList-from_slice}
use Rattle.sweep.proofs.Busy.{works, busy_any}
use Rattle.sweep.proofs.checks.any_busy.Goals as goal

pub returns : goal.returns
returns c =
    any_from_yields_List works _ _ _ c.any.ensures.ran (YieldsList-from_slice (take c.args.n c.args.table.workers) (search rules)) (λ w b q h. search rules)
    ∙ busy_any c.args.table c.args.n (omega arith)
