-- What a test that was a call says, and a key that was read twice.
use Prim.Native.Nat.{ℕ}
use mathlib.Core.Bool.{Bool, true, false}
use mathlib.Core.List.{List}
use mathlib.Core.Path.{◌≡◌, refl, sym, ◌∙◌}
use mir.Syntax.{w8, w32}
use mir.Val.{Fits, SFits, of_z, to_z}
use borrow.Author.Rules.{sfits_of}
use borrow.Author.Tests.{eq-eqb, ne_eqb}
use lib.IntN.{ℤ}
use lib.Signed.{lt_z}
use Rattle.catalogue.specs.Tests.{pick, eq_z, member}
use Rattle.catalogue.specs.Lent.{catalogue_in}
use Rattle.catalogue.specs.Live.{vertices}
use Rattle.catalogue.specs.Workers.{has}
use Rattle.catalogue.specs.Soundness.{sweep, tag_fits}
use Rattle.survey.proofs.Pools.{edge_to}
use Rattle.survey.specs.Walks.{asks_of, Ready}
use Rattle.laws.proofs.Ways.{ways, on_true, on_false, link_at, link_torn, lt_z_read, eq_z_read_true, eq_z_read_false}

-- a call's answer was tested
module _ {A : Type 0} (x : A) (t r : Bool) (a b : A) (e : r ≡ t) where
  pub told_true : r ≡ true → x ≡ a → x ≡ pick t a b
  told_true q h = rw (sym e ∙ q) h

  pub told_false : r ≡ false → x ≡ b → x ≡ pick t a b
  told_false q h = rw (sym e ∙ q) h

-- the flag that says which call asks was tested
module _ (r : Bool) (tag : ℕ) (asked : Bool) where
  pub sweep_fits : asked ≡ true → r ≡ tag_fits sweep tag → r ≡ tag_fits (asks_of asked) tag
  sweep_fits e q = rw e q

  pub listing_fits : asked ≡ false → true ≡ tag_fits (asks_of asked) tag
  listing_fits e = rw e refl

-- both keys of a test were read
pub lt_z_both : (t : Bool) (r a s b : ℤ) → r ≡ a → s ≡ b → SFits w32 r → SFits w32 s → lt_z (to_z w32 (of_z w32 r)) (to_z w32 (of_z w32 s)) ≡ t → lt_z a b ≡ t
lt_z_both t r a s b e f hr hs h = rw (← f) (lt_z_read t r a s e hr hs h)

-- the same where the test is the answer
pub lt_z_says : (t : Bool) (r a s b : ℤ) → r ≡ a → s ≡ b → SFits w32 r → SFits w32 s → lt_z (to_z w32 (of_z w32 r)) (to_z w32 (of_z w32 s)) ≡ t → t ≡ lt_z a b
lt_z_says t r a s b e f hr hs h = sym (lt_z_both t r a s b e f hr hs h)

pub eq_z_both_true : (r a s b : ℤ) → r ≡ a → s ≡ b → SFits w32 r → SFits w32 s → of_z w32 r ≡ of_z w32 s → eq_z a b ≡ true
eq_z_both_true r a s b e f hr hs h = rw (← f) (eq_z_read_true r a s e hr hs h)

pub eq_z_both_false : (r a s b : ℤ) → r ≡ a → s ≡ b → (of_z w32 r ≡ of_z w32 s → ⊥) → eq_z a b ≡ false
eq_z_both_false r a s b e f h = rw (← f) (eq_z_read_false r a s e h)

-- the set of the walk answers for the walk
pub met_on : (keys : List ℤ) (words met : List ℕ) (y : ℕ) (r : Bool) → r ≡ has met y → Ready keys words met → Fits w8 y → r ≡ member y (vertices (catalogue_in keys words))
met_on keys words met y r e m h = e ∙ m.on y h.fits

pub ruleset told_ways = (told_true, told_false, met_on, sweep_fits, listing_fits, lt_z_both, lt_z_says, eq_z_both_true, eq_z_both_false, edge_to, ways)

-- the reads and the tests of a target, and no more
pub ruleset target_ways = (on_true, on_false, eq_z_both_true, eq_z_both_false, link_at, link_torn, eq-eqb, ne_eqb, met_on, sfits_of)
