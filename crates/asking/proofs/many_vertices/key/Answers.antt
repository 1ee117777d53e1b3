-- A number of 16 bits has an opposite of 32.
use Rattle.std.proofs.Common.{arith, eq-eqb, ne_eqb}
use Rattle.digits.proofs.Signs.{plain_is, opposite_is}
use Rattle.asking.specs.Tallies.{key}
use Rattle.laws.proofs.Ways.{on_true, on_false}
use Rattle.asking.proofs.many_vertices.key.Goals as goal

pub returns-then-n-eq0 : goal.returns-then-n-eq0
unfolding key
returns-then-n-eq0 c = on_true _ _ _ _ (eq-eqb _ _ c.if-n-eq0.true) (plain_is c.args.n (omega arith))

pub returns : goal.returns
unfolding key
returns c = on_false _ _ _ _ (ne_eqb _ _ c.if-n-eq0.false) (opposite_is c.args.n (omega arith))
