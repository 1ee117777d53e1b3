-- The schedule is read, and nothing follows it.
use mathlib.Core.Path.{refl}
use Rattle.script.proofs.CheckLaws.{end_good}
use Rattle.script.proofs.checks.check_end.Goals as goal

pub returns : goal.returns
returns c = end_good _ _ _ _ c.check_schedule.ensures _ c.in-Some.is _ c.if-next-text.false refl
