-- What a listing promises of its answer and of the lent output, for any memory and output.
-- Any two results which the promise allows coincide.
use Rattle.std.specs.Prelude.{ℕ, List, ◌≡◌, Result}
use Rattle.std.proofs.Common.{sym, ◌∙◌}
use Rattle.catalogue.specs.Lent.{Memory, lent_listing}
use Rattle.catalogue.specs.declared.answers.Refusal.{Refusal}

-- the answer, and the output after the call; the memory is only read
abbrev pub Lists : Memory → List ℕ → Result ℕ Refusal → List ℕ → Type 0
Lists m output r output' = (r ≡ (lent_listing m output).answer) × (output' ≡ (lent_listing m output).output)

pub lists_unique : (m : Memory) (output : List ℕ) (r r' : Result ℕ Refusal) (left left' : List ℕ) → Lists m output r left → Lists m output r' left' → (r ≡ r') × (left ≡ left')
lists_unique m output r r' left left' h h' = (h.0 ∙ sym h'.0, h.1 ∙ sym h'.1)
