-- What making lent memory fresh promises, for any memory; and that any two results which the promise allows coincide.
use Rattle.std.specs.Prelude.{ℕ, List, ◌≡◌, ℤ, Result}
use Rattle.std.proofs.Common.{sym, ◌∙◌}
use Rattle.catalogue.specs.Lent.{Memory, lent_fresh}
use Rattle.catalogue.specs.declared.answers.Refusal.{Refusal}

-- the answer, and both slices after the call
abbrev pub MakesFresh : Memory → Result (Unit {0}) Refusal → List ℤ → List ℕ → Type 0
MakesFresh m r keys words =
    (r ≡ (lent_fresh m).answer) × ((keys ≡ (lent_fresh m).memory.keys) × (words ≡ (lent_fresh m).memory.words))

pub makes_fresh_unique : (m : Memory) (r r' : Result (Unit {0}) Refusal) (keys keys' : List ℤ) (words words' : List ℕ)
    → MakesFresh m r keys words → MakesFresh m r' keys' words' → (r ≡ r') × (keys ≡ keys') × (words ≡ words')
makes_fresh_unique m r r' keys keys' words words' h h' = (h.0 ∙ sym h'.0, h.1.0 ∙ sym h'.1.0, h.1.1 ∙ sym h'.1.1)
