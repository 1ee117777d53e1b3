-- A law for each case of an option, where code takes a result apart and the definition takes apart what the result is.
use mathlib.Core.Path.{◌≡◌, refl, sym, ◌∙◌}
use Rattle.std.specs.Prelude.{Option, None, Some}
use Rattle.laws.proofs.Rules.{tests}
use Rattle.laws.proofs.Ways.{on_true, on_false}
use Rattle.digits.specs.Digits.{at_some}

module _ {A B : Type 0} (x other : A) (l r : Option B) (e : r ≡ l) (f : B → A) where
  pub some_none : r ≡ None → x ≡ other → x ≡ at_some l other f
  some_none q h = rw (sym e ∙ q) h

  pub some_taken : (b : B) → r ≡ Some b → x ≡ f b → x ≡ at_some l other f
  some_taken b q h = rw (sym e ∙ q) h

pub ruleset taken = (refl, tt, on_true, on_false, some_none, some_taken, tests)
