-- Tests and what they say: of keys, and of two tests at once.
use mathlib.Core.Bool.{Bool, true, false, cond, not, ◌&&◌, ◌||◌}
use mathlib.Core.Path.{◌≡◌, refl, sym}
use mathlib.Core.Logic.{◌⊎◌, inl, inr}
use lib.IntN.{ℤ}
use lib.Signed.{◌<ℤ◌, lt_z}
use Rattle.catalogue.specs.Tests.{eq_z}
use Rattle.laws.proofs.Rules.{eq_z_refl, eq_z_eq}
use Rattle.laws.proofs.Picks.{clash}
use Rattle.row.proofs.Base.{Tri, below, equal, above, tri}

pub eq_z_yes : (a b : ℤ) → a ≡ b → eq_z a b ≡ true
eq_z_yes a b e = rw e (eq_z_refl b)

pub eq_z_no : (a b : ℤ) → (a ≡ b → ⊥) → eq_z a b ≡ false
eq_z_no a b n = by (eq_z a b) refl
  where
    by : (t : Bool) → eq_z a b ≡ t → eq_z a b ≡ false
    by true e = absurd (n (eq_z_eq a b e))
    by false e = e

pub same_key? : (a b : ℤ) → (a ≡ b) ⊎ (a ≡ b → ⊥)
same_key? a b = by (eq_z a b) refl
  where
    by : (t : Bool) → eq_z a b ≡ t → (a ≡ b) ⊎ (a ≡ b → ⊥)
    by true e = inl (eq_z_eq a b e)
    by false e = inr (λ q. clash (cc (eq_z_yes a b q)))

pub not_below : (a b : ℤ) → lt_z a b ≡ false → (a ≡ b) ⊎ (b <ℤ a)
not_below a b e = by (tri a b)
  where
    by : Tri a b → (a ≡ b) ⊎ (b <ℤ a)
    by (below h) = absurd (rw e at h.lt)
    by (equal q) = inl q
    by (above h) = inr h

pub and_true : (a b : Bool) → (a && b) ≡ true → (a ≡ true) × (b ≡ true)
and_true true true e = (refl, refl)
and_true true false e = clash (cc)
and_true false b e = clash (cc)

pub or_true : (a b : Bool) → (a || b) ≡ true → (a ≡ true) ⊎ (b ≡ true)
or_true true b e = inl refl
or_true false b e = inr e

pub or_false : (a b : Bool) → (a || b) ≡ false → (a ≡ false) × (b ≡ false)
or_false true b e = clash (cc)
or_false false b e = (refl, e)

pub not_true : (a : Bool) → not a ≡ true → a ≡ false
not_true true e = clash (cc)
not_true false e = refl

pub not_false : (a : Bool) → not a ≡ false → a ≡ true
not_false true e = refl
not_false false e = clash (cc)

pub cond_or : (t b : Bool) → b ≡ true → cond t true b ≡ true
cond_or true b e = refl
cond_or false b e = e

pub bool_iff : (a b : Bool) → (a ≡ true → b ≡ true) → (b ≡ true → a ≡ true) → a ≡ b
bool_iff true b f g = sym (f refl)
bool_iff false true f g = g refl
bool_iff false false f g = refl
