use Rattle.digits.proofs.Readings.{readings}
use Rattle.digits.proofs.numbers.read_digits.Goals as goal

pub loop-digit-preserved : goal.loop-digit-preserved
loop-digit-preserved c = search readings
