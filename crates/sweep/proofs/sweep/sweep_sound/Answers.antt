-- What the two walks build of a sound catalogue is its second catalogue, for which there is room.
use Rattle.sweep.proofs.Second.{second_cases}
use Rattle.sweep.proofs.sweep.sweep_sound.Goals as goal

pub returns : goal.returns
returns c = search second_cases
