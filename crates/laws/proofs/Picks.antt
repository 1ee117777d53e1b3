-- What holds of every case of a definition holds of the one that its tests and reads choose.
use Prim.Native.Nat.{ℕ}
use mathlib.Core.Bool.{Bool, true, false}
use mathlib.Core.Option as maybe
use mathlib.Core.Path.{◌≡◌, refl, ap, ◌∙◌}
use native.Mathlib.Omega.{arith}
use Rattle.std.proofs.Common.{Option, Some, None, Ok, Err, Result, IsErrAnd}
use Rattle.std.proofs.lemmas.Result.{err_from_is_err_and}
use Rattle.catalogue.specs.Tests.{pick, checked}
use Rattle.catalogue.specs.Numbers.{some_link}
use Rattle.catalogue.specs.Catalogue.{at_link, at_target}
use Rattle.catalogue.specs.declared.links.Link.{Link}

-- `clash (cc)` closes any goal from two equations of one thing with two constructors
pub clash : {A : Type 0} → ◌≡◌ {A = ℕ} 0 1 → A
clash e = absurd (omega arith)

-- both of two tests hold where the one picked by them does
pub both_true : (a b : Bool) → pick a b false ≡ true → (a ≡ true) × (b ≡ true)
both_true true b e = (refl, e)
both_true false b e = clash (cc)

-- something is picked over nothing only where the test holds
pub pick_some : {A : Type 0} (t : Bool) (o : maybe.Option A) (a : A) → pick t o maybe.none ≡ maybe.some a → (t ≡ true) × (o ≡ maybe.some a)
pick_some true o a e = (refl, e)
pick_some false o a e = clash (cc)

-- two whole links that are one lead to the same node, and have the same tag
pub same_next : {a b s t : ℕ} → some_link a s ≡ some_link b t → a ≡ b
same_next e = ap (λ l. at_link l 0 (λ next tag. next)) e

pub same_tag : {a b s t : ℕ} → some_link a s ≡ some_link b t → s ≡ t
same_tag e = ap (λ l. at_link l 0 (λ next tag. tag)) e

-- what the answer of a check says of its test
module _ {E : Type 0} (why : E) where
  pub passes : (t : Bool) (u : Unit {0}) → Ok u ≡ checked t why → t ≡ true
  passes true u h = refl
  passes false u h = clash (cc)

  pub stops : (t : Bool) (e : E) → Err e ≡ checked t why → t ≡ false
  stops true e h = clash (cc)
  stops false e h = refl

  pub stops_as : (t : Bool) (e : E) → Err e ≡ checked t why → e ≡ why
  stops_as true e h = clash (cc)
  stops_as false e h = cc

-- what the exit of a `?` returns, where the refusal goes on as it is
pub goes_on : {T E : Type 0} (r : Result T E) (e : E) → IsErrAnd r (λ y. y ≡ e) → r ≡ Err e
goes_on r e h = let p = err_from_is_err_and r h in p.1 ∙ ap Err p.2

module _ {A : Type 0} (P : A → Type 0) where
  pub pick_both : (t : Bool) (a b : A) → (t ≡ true → P a) → (t ≡ false → P b) → P (pick t a b)
  pick_both true a b f g = f refl
  pick_both false a b f g = g refl

  pub link_both : (l : Option (Link ℕ)) (torn : A) (f : ℕ → ℕ → A) → P torn → ((next tag : ℕ) → l ≡ some_link next tag → P (f next tag)) → P (at_link l torn f)
  link_both (Some l) torn f p g = g l.next l.tag refl
  link_both None torn f p g = p

  pub target_both : (l : Option ℕ) (torn : A) (f : ℕ → A) → P torn → ((n : ℕ) → l ≡ Some n → P (f n)) → P (at_target l torn f)
  target_both (Some n) torn f p g = g n refl
  target_both None torn f p g = p
