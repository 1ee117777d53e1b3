-- The definitions nest tests where the machine joins them.
use mathlib.Core.Bool.{Bool, true, false, cond, ◌&&◌, ◌||◌}
use mathlib.Core.Path.{◌≡◌, refl}
use Rattle.catalogue.specs.Tests.{pick}
use Rattle.laws.proofs.Picks.{clash}

module _ {A : Type 0} where
  pub pick_cond : (a : Bool) (x y : A) → pick a x y ≡ cond a x y
  pick_cond true x y = refl
  pick_cond false x y = refl

  pub pick_or : (a b : Bool) (x y : A) → pick a x (pick b x y) ≡ cond (a || b) x y
  pick_or true b x y = refl
  pick_or false true x y = refl
  pick_or false false x y = refl

  pub pick_and : (a b : Bool) (x y : A) → pick a (pick b x y) y ≡ cond (a && b) x y
  pick_and true true x y = refl
  pick_and true false x y = refl
  pick_and false b x y = refl

-- of two tests joined, neither holds
pub neither : (a b : Bool) → pick a true b ≡ false → (a ≡ false) × (b ≡ false)
neither true b e = clash (cc)
neither false b e = (refl, e)
