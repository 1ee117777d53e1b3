-- Any two results that the promises allow coincide.
use Rattle.std.specs.Prelude.{ℕ, List, ◌≡◌, ℤ}
use Rattle.std.proofs.Common.{sym, ◌∙◌}
use Rattle.catalogue.specs.Lent.{Memory}
use Rattle.catalogue.specs.declared.answers.Outcome.{Outcome}
use Rattle.catalogue.specs.declared.workers.Request.{Request}
use Rattle.catalogue.specs.declared.workers.Table.{Table}
use Rattle.calls.specs.Promised.{TakesUp, Steps}

pub takes_up_unique : (m : Memory) (t : Table) (w : ℕ) (q : Request) (r r' : Outcome) → TakesUp m t w q r → TakesUp m t w q r' → r ≡ r'
takes_up_unique m t w q r r' h h' = h ∙ sym h'

pub steps_unique : (m : Memory) (t : Table) (w : ℕ) (r r' : Outcome) (keys keys' : List ℤ) (words words' : List ℕ)
    → Steps m t w r keys words → Steps m t w r' keys' words' → (r ≡ r') × (keys ≡ keys') × (words ≡ words')
steps_unique m t w r r' keys keys' words words' h h' = (h.0 ∙ sym h'.0, h.1.0 ∙ sym h'.1.0, h.1.1 ∙ sym h'.1.1)
