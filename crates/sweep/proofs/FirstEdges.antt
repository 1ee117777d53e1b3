-- The first edge of each source, where one more edge stands after the others.
use Prim.Native.Nat.{ℕ, suc, ◌+◌, ◌<◌, ◌≤◌}
use mathlib.Core.List.{List, [], ◌∷◌, ◌++◌}
use mathlib.Core.Logic.{inl, inr}
use mathlib.Core.Path.{◌≡◌, refl, sym, ◌∙◌}
use native.Mathlib.Omega.{arith}
use borrow.Author.Tests.{eq-eqb, ne_eqb}
use lib.ListN.{length}
use Rattle.catalogue.specs.Numbers.{edge_tail}
use Rattle.catalogue.specs.Sweep.{SweptEdge, first_of}
use Rattle.laws.proofs.Cases.{same?}
use Rattle.laws.proofs.Members.{all_each}
use Rattle.resting.proofs.Blocks.{sees, passes}
use Rattle.sweep.proofs.Sources.{Below}

-- the first edge of a source, by the edges' order
module _ (i : ℕ) (d : SweptEdge) (es : List SweptEdge) (k : ℕ) where
  first_here : i ≡ d.source → first_of i (d ∷ es) k ≡ k
  first_here e = sees i d es k ∙ rw (eq-eqb i d.source e) refl

  first_on : (i ≡ d.source → ⊥) → first_of i (d ∷ es) k ≡ first_of i es (suc k)
  first_on e = sees i d es k ∙ rw (ne_eqb i d.source e) refl

-- by one more edge: a source that has none yet, another source, and one that has some
pub first_fresh : (s : ℕ) (es : List SweptEdge) (d : SweptEdge) (k : ℕ) → Below s es → s ≡ d.source → first_of s (es ++ (d ∷ [])) k ≡ k + length es
first_fresh s es d k b e =
    passes s es (d ∷ []) k (all_each (λ c. (1 ≤ c.source) × (c.source < s)) (λ c. c.source ≡ s → ⊥) (λ c h. let low = h.1 in omega arith) es b)
    ∙ first_here s d [] (k + length es) e

none_found : (i k : ℕ) → first_of i [] k ≡ edge_tail
unfolding first_of
none_found i k = refl

pub first_other : (i : ℕ) (es : List SweptEdge) (d : SweptEdge) (k : ℕ) → (i ≡ d.source → ⊥) → first_of i (es ++ (d ∷ [])) k ≡ first_of i es k
first_other i [] d k e = first_on i d [] k e ∙ none_found i (suc k) ∙ sym (none_found i k)
first_other i (x ∷ es) d k e =
    elim (same? i x.source) [
      | inl q ↦ first_here i x (es ++ (d ∷ [])) k q ∙ sym (first_here i x es k q)
      | inr q ↦ first_on i x (es ++ (d ∷ [])) k q ∙ first_other i es d (suc k) e ∙ sym (first_on i x es k q)
    ]

pub first_had : (s : ℕ) (es : List SweptEdge) (c d : SweptEdge) (k : ℕ) → s ≡ c.source
    → first_of s (es ++ (c ∷ []) ++ (d ∷ [])) k ≡ first_of s (es ++ (c ∷ [])) k
first_had s [] c d k e = first_here s c (d ∷ []) k e ∙ sym (first_here s c [] k e)
first_had s (x ∷ es) c d k e =
    elim (same? s x.source) [
      | inl q ↦ first_here s x (es ++ (c ∷ []) ++ (d ∷ [])) k q ∙ sym (first_here s x (es ++ (c ∷ [])) k q)
      | inr q ↦ first_on s x (es ++ (c ∷ []) ++ (d ∷ [])) k q ∙ first_had s es c d (suc k) e ∙ sym (first_on s x (es ++ (c ∷ [])) k q)
    ]
