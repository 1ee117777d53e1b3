-- Two numbers are one or two, and one is below the other or it is not;
-- and a function with another value at one number, in both cases.
use Prim.Native.Nat.{ℕ, ◌<◌, ◌≤◌}
use mathlib.Core.Bool.{Bool, true, false}
use mathlib.Core.Logic.{◌⊎◌, inl, inr}
use mathlib.Core.Path.{◌≡◌, refl}
use borrow.Author.Tests.{eq-eqb, ne_eqb, eqb-true, eqb-false, ltb-true, ltb-false}
use lib.Dec.{eqb, ltb}
use Rattle.catalogue.specs.Tests.{upd}

pub same? : (i j : ℕ) → (i ≡ j) ⊎ (i ≡ j → ⊥)
same? i j = by (eqb i j) refl
  where
    by : (t : Bool) → eqb i j ≡ t → (i ≡ j) ⊎ (i ≡ j → ⊥)
    by true e = inl (eqb-true i j e)
    by false e = inr (eqb-false i j e)

pub lt_or : (i j : ℕ) → (i < j) ⊎ (j ≤ i)
lt_or i j = by (ltb i j) refl
  where
    by : (t : Bool) → ltb i j ≡ t → (i < j) ⊎ (j ≤ i)
    by true e = inl (ltb-true i j e)
    by false e = inr (ltb-false i j e)

module _ {A : Type 0} (f : ℕ → A) (i : ℕ) (v : A) (j : ℕ) where
  pub upd_at : j ≡ i → upd f i v j ≡ v
  unfolding upd
  upd_at e = rw (eq-eqb j i e)

  pub upd_other : (j ≡ i → ⊥) → upd f i v j ≡ f j
  unfolding upd
  upd_other e = rw (ne_eqb j i e)
