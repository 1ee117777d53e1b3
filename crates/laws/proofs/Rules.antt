-- What `search` is handed to close a `returns` against a definition that goes by tests:
-- the value of each test, known from the branches on the way.
-- Keys are signed, and reach a test or a callee through their bits: the laws here take them back.
use mathlib.Core.Bool.{Bool, true, false, false≢true}
use mathlib.Core.Path.{◌≡◌, refl, sym, ◌∙◌, ap, subst}
use borrow.Author.Tests.{le-ltb, lt-ltb, le-leb, lt-leb, eq-eqb, ne_eqb, eqb-true}
use borrow.Author.Rules.{sfits_of}
use mir.Syntax.{w32}
use mir.Val.{SFits, of_z, to_z}
use mir.Facts.{to_z-of_z}
use lib.IntN.{ℤ, pos, negsuc}
use lib.Signed.{lt_z}
use lib.Dec.{lit<}
use Rattle.catalogue.specs.Tests.{eq_z}

pub eq_z_refl : (a : ℤ) → eq_z a a ≡ true
unfolding eq_z
eq_z_refl (pos n) = eq-eqb n n refl
eq_z_refl (negsuc n) = eq-eqb n n refl

pub eq_z_eq : (a b : ℤ) → eq_z a b ≡ true → a ≡ b
unfolding eq_z
eq_z_eq (pos a) (pos b) e = ap pos (eqb-true a b e)
eq_z_eq (negsuc a) (negsuc b) e = ap negsuc (eqb-true a b e)
eq_z_eq (pos a) (negsuc b) e = absurd (false≢true e)
eq_z_eq (negsuc a) (pos b) e = absurd (false≢true e)

pub not_true_false : (t : Bool) → (t ≡ true → ⊥) → t ≡ false
not_true_false true h = absurd (h refl)
not_true_false false h = refl

-- two keys are equal where their bits are, and not where those are not
pub eq_z_true : (a b : ℤ) → SFits w32 a → SFits w32 b → of_z w32 a ≡ of_z w32 b → eq_z a b ≡ true
eq_z_true a b ha hb e = subst (λ (x : ℤ). eq_z a x ≡ true) (sym (to_z-of_z ha) ∙ ap (to_z w32) e ∙ to_z-of_z hb) (eq_z_refl a)

pub eq_z_false : (a b : ℤ) → (of_z w32 a ≡ of_z w32 b → ⊥) → eq_z a b ≡ false
eq_z_false a b h = not_true_false (eq_z a b) (λ e. h (ap (of_z w32) (eq_z_eq a b e)))

-- the order of the numbers that are read back from the bits is that of the keys
pub lt_z_is : (t : Bool) (a b : ℤ) → SFits w32 a → SFits w32 b → lt_z (to_z w32 (of_z w32 a)) (to_z w32 (of_z w32 b)) ≡ t → lt_z a b ≡ t
lt_z_is t a b ha hb e = rw (to_z-of_z ha, to_z-of_z hb) at e

pub ruleset tests = (tt, lit<, le-ltb, lt-ltb, le-leb, lt-leb, eq-eqb, ne_eqb, eq_z_true, eq_z_false, lt_z_is, to_z-of_z, sfits_of)
