-- Cleared slices are laid memory of zeros, and the head's key and link make them that of the fresh catalogue.
use Rattle.clearing.proofs.Zeros.{fresh_laid}
use Rattle.clearing.proofs.fresh.lay_fresh.Goals as goal

pub returns : goal.returns
returns c = search (fresh_laid, c.fill.ensures.after (λ y e. e), c.fill-2.ensures.after (λ y e. e))
