use Rattle.digits.proofs.Readings.{Reading}
use Prim.Native.Nat.{◌-◌}
use lib.ListN.{length}
use Rattle.digits.proofs.numbers.read_digits.Given as goal

abbrev pub invariant-loop-digit : goal.invariant-loop-digit
invariant-loop-digit l = Reading l.text l.at l.place l.sum

abbrev pub decreases-loop-digit : goal.decreases-loop-digit
decreases-loop-digit l = length l.text - l.place
