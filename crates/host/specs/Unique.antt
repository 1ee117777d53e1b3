-- Any two results that the promises allow coincide: the numbers returned, the slices, and the lent tables, number by
-- number.
use Rattle.std.specs.Prelude.{ℕ, List, ◌≡◌, ℤ}
use Rattle.std.proofs.Common.{sym, ◌∙◌}
use Rattle.catalogue.specs.Lent.{Memory}
use Rattle.catalogue.specs.declared.workers.Request.{Request}
use Rattle.border.specs.declared.kept.Kept.{Kept}
use Rattle.host.specs.Promised.{Steps, TakesUp, MakesTable, MakesFresh, Lists, Runs, Sweeps}

pub steps_unique : (m : Memory) (t : Kept) (w r r' : ℕ) (s s' : Kept) (keys keys' : List ℤ) (words words' : List ℕ)
    → Steps m t w r s keys words → Steps m t w r' s' keys' words' → (r ≡ r') × (s ≡ s') × (keys ≡ keys') × (words ≡ words')
steps_unique m t w r r' s s' keys keys' words words' h h' =
    (h.0 ∙ sym h'.0, h.1.0.0 ∙ sym h'.1.0.0, h.1.1.0 ∙ sym h'.1.1.0, h.1.1.1 ∙ sym h'.1.1.1)

pub takes_up_unique : (m : Memory) (t : Kept) (w : ℕ) (q : Request) (r r' : ℕ) (s s' : Kept)
    → TakesUp m t w q r s → TakesUp m t w q r' s' → (r ≡ r') × (s ≡ s')
takes_up_unique m t w q r r' s s' h h' = (h.0 ∙ sym h'.0, h.1.0 ∙ sym h'.1.0)

pub makes_table_unique : (t : Kept) (count r r' : ℕ) (s s' : Kept) → MakesTable t count r s → MakesTable t count r' s' → (r ≡ r') × (s ≡ s')
makes_table_unique t count r r' s s' h h' = (h.0 ∙ sym h'.0, h.1.0 ∙ sym h'.1.0)

pub makes_fresh_unique : (m : Memory) (r r' : ℕ) (keys keys' : List ℤ) (words words' : List ℕ)
    → MakesFresh m r keys words → MakesFresh m r' keys' words' → (r ≡ r') × (keys ≡ keys') × (words ≡ words')
makes_fresh_unique m r r' keys keys' words words' h h' = (h.0 ∙ sym h'.0, h.1.0 ∙ sym h'.1.0, h.1.1 ∙ sym h'.1.1)

pub lists_unique : (m : Memory) (output : List ℕ) (r r' : ℕ) (left left' : List ℕ) → Lists m output r left → Lists m output r' left' → (r ≡ r') × (left ≡ left')
lists_unique m output r r' left left' h h' = (h.0 ∙ sym h'.0, h.1 ∙ sym h'.1)

pub runs_unique : (script : List ℕ) (m : Memory) (output : List ℕ) (r r' : ℕ) (keys keys' : List ℤ) (words words' left left' : List ℕ)
    → Runs script m output r keys words left → Runs script m output r' keys' words' left' → (r ≡ r') × (keys ≡ keys') × (words ≡ words') × (left ≡ left')
runs_unique script m output r r' keys keys' words words' left left' h h' =
    (h.0 ∙ sym h'.0, h.1.0 ∙ sym h'.1.0, h.1.1.0 ∙ sym h'.1.1.0, h.1.1.1 ∙ sym h'.1.1.1)

pub sweeps_unique : (m n : Memory) (t : Kept) (r r' : ℕ) (keys keys' : List ℤ) (words words' : List ℕ)
    → Sweeps m n t r keys words → Sweeps m n t r' keys' words' → (r ≡ r') × (keys ≡ keys') × (words ≡ words')
sweeps_unique m n t r r' keys keys' words words' h h' = (h.0 ∙ sym h'.0, h.1.0 ∙ sym h'.1.0, h.1.1 ∙ sym h'.1.1)
