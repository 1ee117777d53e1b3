-- The second slice passed the check too.
use Rattle.memory.proofs.Sizes.{worded_passed}
use Rattle.clearing.proofs.fresh.fresh.Goals as goal

pub unwrap-words-requires : goal.unwrap-words-requires
unwrap-words-requires c = c.as_mut_array-2.ensures.variant.1 (worded_passed _ _ _ c.in_ok-sized.ensures)
