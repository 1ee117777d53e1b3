-- Laws of function update, of tests on numbers and of the order of ℤ.
use Prim.Native.Nat.{ℕ, ◌<◌}
use mathlib.Core.Bool.{Bool, true}
use mathlib.Core.Path.{◌≡◌, refl, ap, ◌∙◌}
use mathlib.Core.Logic.{inl, inr}
use lib.IntN.{ℤ, pos, negsuc}
use lib.Dec.{lt→ltb}
use lib.Signed.{◌<ℤ◌, lt_z_yes}
use borrow.Author.Tests.{eq-eqb}
use native.Mathlib.Omega.{arith}
use Rattle.catalogue.specs.Tests.{upd}
pub use Rattle.laws.proofs.Picks.{clash}
pub use Rattle.laws.proofs.Cases.{same?, lt_or, upd_at, upd_other}
pub use Rattle.laws.proofs.Keys.{<ℤ-trans, rises as lt_z_true}

-- ---- function update

pub upd_same : {A : Type 0} (f : ℕ → A) (i : ℕ) (v : A) → upd f i v i ≡ v
unfolding upd
upd_same f i v = rw (eq-eqb i i refl)

pub upd_true : (f : ℕ → Bool) (i j : ℕ) → f j ≡ true → upd f i true j ≡ true
upd_true f i j e = elim (same? j i) [ inl q ↦ upd_at f i true j q | inr n ↦ upd_other f i true j n ∙ e ]

-- the laws for `search`: an index that is below or above is another one
pub lt_ne : {j i : ℕ} → j < i → j ≡ i → ⊥
lt_ne h = omega arith

pub gt_ne : {j i : ℕ} → i < j → j ≡ i → ⊥
gt_ne h = omega arith

pub ruleset upds = (upd_same, upd_at, upd_other, lt_ne, gt_ne)

-- ---- the order of ℤ

pub data Tri (a b : ℤ) : Type 0 where
  below : a <ℤ b → Tri a b
  equal : a ≡ b → Tri a b
  above : b <ℤ a → Tri a b

pub tri : (a b : ℤ) → Tri a b
tri (pos a) (negsuc b) = above (lt_z_yes tt)
tri (negsuc a) (pos b) = below (lt_z_yes tt)
tri (pos a) (pos b) =
    elim (same? a b) [
      | inl e ↦ equal (ap pos e)
      | inr n ↦ elim (lt_or a b) [ inl h ↦ below (lt_z_yes (lt→ltb a b h)) | inr h ↦ above (lt_z_yes (lt→ltb b a (omega arith))) ]
    ]
tri (negsuc a) (negsuc b) =
    elim (same? a b) [
      | inl e ↦ equal (ap negsuc e)
      | inr n ↦ elim (lt_or a b) [ inl h ↦ above (lt_z_yes (lt→ltb a b h)) | inr h ↦ below (lt_z_yes (lt→ltb b a (omega arith))) ]
    ]
