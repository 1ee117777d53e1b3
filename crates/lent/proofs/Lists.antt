-- Tests that are the same for every member keep the same, and pass the same lists.
use mathlib.Core.Bool.{Bool}
use mathlib.Core.List.{List, [], ◌∷◌}
use mathlib.Core.Path.{◌≡◌, refl}
use Rattle.catalogue.specs.Tests.{keep, every}
use Rattle.laws.proofs.Members.{All}

module _ {A : Type 0} where
  pub keep_same : (test test' : A → Bool) (l : List A) → All (λ x. test x ≡ test' x) l → keep test l ≡ keep test' l
  unfolding keep
  keep_same test test' [] h = refl
  keep_same test test' (x ∷ l) h = rw (h.0, keep_same test test' l h.1) refl

  pub every_same : (test test' : A → Bool) (l : List A) → All (λ x. test x ≡ test' x) l → every test l ≡ every test' l
  unfolding every
  every_same test test' [] h = refl
  every_same test test' (x ∷ l) h = rw (h.0, every_same test test' l h.1) refl
