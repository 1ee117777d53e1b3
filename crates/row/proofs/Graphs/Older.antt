-- Walks over edge nodes. `Safe`: no walk over older edges leads from an added edge's end to its start.
-- Then no closed walk over added edges: the newest edge of one would be such.
use Prim.Native.Nat.{ℕ, zero, suc, ◌≤◌, ◌<◌}
use mathlib.Core.Bool.{false}
use mathlib.Core.Path.{◌≡◌, refl, sym, ap, ◌∙◌}
use mathlib.Core.Logic.{⊎_elim}
use native.Mathlib.Omega.{arith}
use Rattle.row.proofs.Base.{same?}
use Rattle.row.specs.Lists.Edges.{added, is_marked}
use Rattle.row.specs.Machine.World.{World}

-- from x to y over numbers e with `P e`, each from `from e` to `to e`
pub data Trail (P : ℕ → Type 0) (from to : ℕ → ℕ) (y : ℕ) : ℕ → Type 0 where
  end : {x : ℕ} → x ≡ y → Trail P from to y x
  via : {x : ℕ} (e : ℕ) → P e → from e ≡ x → Trail P from to y (to e) → Trail P from to y x

pub trail_append : {P : ℕ → Type 0} {from to : ℕ → ℕ} {y x z : ℕ} → Trail P from to y x → Trail P from to z y → Trail P from to z x
trail_append (end q) t = rw q t
trail_append (via e p q r) t = via e p q (trail_append r t)

pub trail_map : {P Q : ℕ → Type 0} {from to from' to' : ℕ → ℕ} {y : ℕ}
    → ((e : ℕ) → P e → Q e) → ((e : ℕ) → P e → from' e ≡ from e) → ((e : ℕ) → P e → to' e ≡ to e)
    → {x : ℕ} → Trail P from to y x → Trail Q from' to' y x
trail_map f g h (end q) = end q
trail_map f g h (via e p q r) = via e (f e p) (g e p ∙ q) (rw (h e p) (trail_map f g h r))

-- neither marked nor at a marked vertex
pub record LiveE (W : World) (e : ℕ) : Type 0 where
  pub low : 1 ≤ e
  pub high : e < W.e.used
  pub plain : is_marked (W.e.tag e) ≡ false
  pub source : W.v.marked (W.e.owner e) ≡ false
  pub target : W.v.marked (W.e.target e) ≡ false

pub record AddedE (W : World) (e : ℕ) : Type 0 where
  pub low : 1 ≤ e
  pub high : e < W.e.used
  pub is_added : W.e.tag e ≡ added
  pub source : W.v.marked (W.e.owner e) ≡ false
  pub target : W.v.marked (W.e.target e) ≡ false

pub added_live : {W : World} {e : ℕ} → AddedE W e → LiveE W e
added_live a = record { low = a.low; high = a.high; plain = rw a.is_added; source = a.source; target = a.target }

abbrev pub Older : World → ℕ → ℕ → ℕ → Type 0
Older W n x y = Trail (λ e. LiveE W e × (e < n)) W.e.owner W.e.target y x

abbrev pub Safe : World → Type 0
Safe W = (e : ℕ) → AddedE W e → Older W e (W.e.target e) (W.e.owner e) → ⊥

abbrev AW : World → ℕ → ℕ → ℕ → Type 0
AW W n x y = Trail (λ e. AddedE W e × (e < n)) W.e.owner W.e.target y x

module _ (C : World) where
  data Cut (n x y : ℕ) : Type 0 where
    without : AW C n x y → Cut n x y
    cut : AW C n x (C.e.owner n) → AddedE C n → AW C (suc n) (C.e.target n) y → Cut n x y

  cut_at : (n : ℕ) {y x : ℕ} → AW C (suc n) x y → Cut n x y
  cut_at n (end q) = without (end q)
  cut_at n {y = y} (via {x = x} e p q r) = ⊎_elim same (other (cut_at n r)) (same? e n)
    where
      same : e ≡ n → Cut n x y
      same w = cut (end (sym q ∙ ap C.e.owner w)) (rw w at p.0) (rw w at r)

      other : Cut n (C.e.target e) y → (e ≡ n → ⊥) → Cut n x y
      other (without w) d = without (via e (p.0, omega arith) q w)
      other (cut w a t) d = cut (via e (p.0, omega arith) q w) a t

  before : (n x : ℕ) → AW C (suc n) x (C.e.owner n) → AW C n x (C.e.owner n)
  before n x t = elim (cut_at n t) [ without w ↦ w | cut w a r ↦ w ]

  walk_older : (n x y : ℕ) → AW C n x y → Older C n x y
  walk_older n x y t = trail_map (λ e p. (added_live p.0, p.1)) (λ e p. refl) (λ e p. refl) t

  wider : (n x y : ℕ) → AW C n x y → AW C (suc n) x y
  wider n x y t = trail_map (λ e p. (p.0, omega arith)) (λ e p. refl) (λ e p. refl) t

  module _ (safe : Safe C) where
    largest : (n : ℕ) → AddedE C n → AW C (suc n) (C.e.target n) (C.e.owner n) → ⊥
    largest n a t = safe n a (walk_older n _ _ (before n _ t))

    no_cycle_below : (n e : ℕ) → AddedE C e → e < n → AW C n (C.e.target e) (C.e.owner e) → ⊥
    no_cycle_below zero e a h t = omega arith
    no_cycle_below (suc n) e a h t = ⊎_elim same (other (λ l w. no_cycle_below n e a l w) (cut_at n t)) (same? e n)
      where
        same : e ≡ n → ⊥
        same w = largest n (rw w at a) (rw w at t)

        other : (e < n → AW C n (C.e.target e) (C.e.owner e) → ⊥) → Cut n (C.e.target e) (C.e.owner e) → (e ≡ n → ⊥) → ⊥
        other ih (without w) d = ih (omega arith) w
        other ih (cut w b r) d = largest n b (trail_append r (via e (a, omega arith) refl (wider n _ _ w)))

    pub acyclic : (e : ℕ) → AddedE C e → Trail (AddedE C) C.e.owner C.e.target (C.e.owner e) (C.e.target e) → ⊥
    acyclic e a t = no_cycle_below C.e.used e a a.high (trail_map (λ e p. (p, p.high)) (λ e p. refl) (λ e p. refl) t)
