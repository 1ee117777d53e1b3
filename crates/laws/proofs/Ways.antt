-- A way through code against a definition that goes by the same tests and reads:
-- each test and each read on the way chooses a case, and what is left is the end of the way.
-- `search ways` follows them one by one, from the facts that a walk has: what a callee ensures of its result,
-- and which constructor the result was taken apart into.
use Prim.Native.Nat.{ℕ}
use mathlib.Core.Bool.{Bool, true, false}
use mathlib.Core.Path.{◌≡◌, refl, sym, ◌∙◌, ap, subst}
use mir.Syntax.{w32}
use mir.Val.{SFits, of_z, to_z}
use lib.Dec.{eqb}
use lib.IntN.{ℤ}
use lib.Signed.{lt_z}
use mathlib.Core.List.{List}
use Rattle.catalogue.specs.Tests.{pick, eq_z}
use Rattle.std.proofs.Common.{Option, Some, None}
use Rattle.catalogue.specs.Calls.{worker_fits}
use Rattle.catalogue.specs.Catalogue.{at_link}
use Rattle.catalogue.specs.Numbers.{reserved}
use Rattle.catalogue.specs.Workers.{has}
use Rattle.catalogue.specs.declared.links.Link.{Link}
use Rattle.laws.proofs.Rules.{tests, eq_z_true, eq_z_false, lt_z_is}

module _ {A : Type 0} (x : A) where
  -- a test
  pub on_true : (t : Bool) (a b : A) → t ≡ true → x ≡ a → x ≡ pick t a b
  on_true t a b e q = rw e q

  pub on_false : (t : Bool) (a b : A) → t ≡ false → x ≡ b → x ≡ pick t a b
  on_false t a b e q = rw e q

  -- a read, whose answer r the code took apart
  pub link_at : (l r : Option (Link ℕ)) (k : Link ℕ) (torn : A) (f : ℕ → ℕ → A) → r ≡ l → r ≡ Some k → x ≡ f k.next k.tag → x ≡ at_link l torn f
  link_at l r k torn f e q h = rw (sym e ∙ q) h

  pub link_torn : (l r : Option (Link ℕ)) (torn : A) (f : ℕ → ℕ → A) → r ≡ l → r ≡ None → x ≡ torn → x ≡ at_link l torn f
  link_torn l r torn f e q h = rw (sym e ∙ q) h

-- a test of a key that was read
pub lt_z_read : (t : Bool) (r a b : ℤ) → r ≡ a → SFits w32 r → SFits w32 b → lt_z (to_z w32 (of_z w32 r)) (to_z w32 (of_z w32 b)) ≡ t → lt_z a b ≡ t
lt_z_read t r a b e hr hb h = rw (← e) (lt_z_is t r b hr hb h)

pub eq_z_read_true : (r a b : ℤ) → r ≡ a → SFits w32 r → SFits w32 b → of_z w32 r ≡ of_z w32 b → eq_z a b ≡ true
eq_z_read_true r a b e hr hb h = rw (← e) (eq_z_true r b hr hb h)

pub eq_z_read_false : (r a b : ℤ) → r ≡ a → (of_z w32 r ≡ of_z w32 b → ⊥) → eq_z a b ≡ false
eq_z_read_false r a b e h = rw (← e) (eq_z_false r b h)

-- what a test says, by the flag that a call of it answered
pub flag : (a r t : Bool) → r ≡ a → r ≡ t → a ≡ t
flag a r t e q = sym e ∙ q

-- ---- for a way written by hand

-- a signed argument reaches a callee through its bits, and means the same there
pub arg : {A : Type 0} (f : ℤ → A) (r : A) (k k' : ℤ) → r ≡ f k' → k' ≡ k → r ≡ f k
arg f r k k' e s = e ∙ ap f s

-- a value l that the code knows as r, and r as the constructor s
pub by : {A B : Type 0} (f : A → B) (l r s : A) (x : B) → r ≡ l → r ≡ s → x ≡ f s → x ≡ f l
by f l r s x e q h = h ∙ ap f (sym q ∙ e)

-- the arm of another number in a match on a number
pub eqb_arm : (a b d : ℕ) → a ≡ d → eqb d b ≡ false → eqb a b ≡ false
eqb_arm a b d e h = subst (λ (x : ℕ). eqb x b ≡ false) (sym e) h

-- the flags of three calls
pub met_is : (met : List ℕ) (n : ℕ) (r t : Bool) → r ≡ has met n → r ≡ t → has met n ≡ t
met_is met n = flag (has met n)

pub worker_flag : (count w : ℕ) (r t : Bool) → r ≡ worker_fits count w → r ≡ t → worker_fits count w ≡ t
worker_flag count w = flag (worker_fits count w)

pub reserved_is : (k k' : ℤ) (r t : Bool) → r ≡ reserved k' → k' ≡ k → r ≡ t → reserved k ≡ t
reserved_is k k' r t e s = flag (reserved k) r t (arg reserved r k k' e s)

pub ruleset ways = (
  refl,
  on_true,
  on_false,
  link_at,
  link_torn,
  lt_z_read,
  eq_z_read_true,
  eq_z_read_false,
  tests,
)
