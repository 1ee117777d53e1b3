-- What a sweep promises, for any two memories and any table.
-- Any two results which the promise allows coincide.
use Rattle.std.specs.Prelude.{ℕ, List, ◌≡◌, ℤ, Result}
use Rattle.std.proofs.Common.{sym, ◌∙◌}
use Rattle.catalogue.specs.Lent.{Memory, lent_sweep}
use Rattle.catalogue.specs.declared.answers.Refusal.{Refusal}
use Rattle.catalogue.specs.declared.workers.Table.{Table}

-- the answer, and both slices of the second memory after the call
abbrev pub Sweeps : Memory → Memory → Table → Result (Unit {0}) Refusal → List ℤ → List ℕ → Type 0
Sweeps m n t r keys words =
    (r ≡ (lent_sweep m n t).answer) × ((keys ≡ (lent_sweep m n t).memory.keys) × (words ≡ (lent_sweep m n t).memory.words))

pub sweeps_unique : (m n : Memory) (t : Table) (r r' : Result (Unit {0}) Refusal) (keys keys' : List ℤ) (words words' : List ℕ)
    → Sweeps m n t r keys words → Sweeps m n t r' keys' words' → (r ≡ r') × (keys ≡ keys') × (words ≡ words')
sweeps_unique m n t r r' keys keys' words words' h h' = (h.0 ∙ sym h'.0, h.1.0 ∙ sym h'.1.0, h.1.1 ∙ sym h'.1.1)
