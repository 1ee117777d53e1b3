-- What running a script promises of its answer and of the lent slices, for any text, memory and output; and that any
-- two results which the promise allows coincide.
use Rattle.std.specs.Prelude.{ℕ, List, ◌≡◌, ℤ, Result}
use Rattle.std.proofs.Common.{sym, ◌∙◌}
use Rattle.catalogue.specs.Lent.{Memory, lent_run}
use Rattle.catalogue.specs.declared.script.RunError.{RunError}

-- the answer, and all three slices after the call
abbrev pub RunsScript : List ℕ → Memory → List ℕ → Result ℕ RunError → List ℤ → List ℕ → List ℕ → Type 0
RunsScript text m output r keys words output' =
    (r ≡ (lent_run text m output).answer)
    × ((keys ≡ (lent_run text m output).memory.keys)
    × ((words ≡ (lent_run text m output).memory.words) × (output' ≡ (lent_run text m output).output)))

pub runs_script_unique : (text : List ℕ) (m : Memory) (output : List ℕ) (r r' : Result ℕ RunError) (keys keys' : List ℤ) (words words' left left' : List ℕ)
    → RunsScript text m output r keys words left → RunsScript text m output r' keys' words' left'
    → (r ≡ r') × ((keys ≡ keys') × ((words ≡ words') × (left ≡ left')))
runs_script_unique text m output r r' keys keys' words words' left left' h h' =
    (h.0 ∙ sym h'.0, (h.1.0 ∙ sym h'.1.0, (h.1.1.0 ∙ sym h'.1.1.0, h.1.1.1 ∙ sym h'.1.1.1)))
