-- What a look at an edge list implies.
use Prim.Native.Nat.{ℕ}
use mathlib.Core.Bool.{Bool, true, false, cond, not, ◌&&◌, ◌||◌}
use mathlib.Core.Path.{◌≡◌, refl, ap}
use mathlib.Core.Logic.{◌⊎◌, inl, inr}
use lib.IntN.{ℤ}
use lib.Dec.{eqb}
use lib.Signed.{◌<ℤ◌, lt_z, <ℤ_irrefl}
use borrow.Author.Tests.{eqb-true}
use Rattle.row.proofs.Tests.{not_below, and_true, or_true, or_false, not_true}
use Rattle.laws.proofs.Picks.{clash}
use Rattle.row.proofs.Base.{lt_z_true, <ℤ-trans}
use Rattle.row.specs.Lists.Edges.{Tag, marked, transit, added, Prev, is_marked, link, tag_at}
use Rattle.row.specs.Machine.World.{World, is_added}
use Rattle.row.specs.Machine.Moves.{ESeen, e_dead, e_again, e_passes, e_marks, e_onward, e_settle, elook}
use Rattle.row.proofs.Graphs.Graph.{added_is}
use Rattle.row.proofs.Graphs.Good.{WGood}
use Rattle.row.proofs.Steps.VertexDeeds.{Legal}
use Rattle.row.proofs.Steps.Outcomes.{DeadV}

-- the tail's key is above every key that is asked for
pub below_tail : (W : World) → WGood W → (l : ℤ) → Legal l → (c : ℕ) → (W.e.key c <ℤ l) ⊎ (W.e.key c ≡ l) → c ≡ 0 → ⊥
below_tail W g l a c (inl h) q = <ℤ_irrefl (<ℤ-trans a.high (rw (q, g.tail_key) at h))
below_tail W g l a c (inr h) q = <ℤ_irrefl {a = l} (rw (← h, q, g.tail_key) (rw (← h, q, g.tail_key) at a.high))

pub record Calm (W : World) (u v : ℕ) : Type 0 where
  pub source : W.v.marked u ≡ false
  pub goal : W.v.marked v ≡ false

pub calm : (W : World) (u v : ℕ) → (W.v.marked u || W.v.marked v) ≡ false → Calm W u v
calm W u v e = let z = or_false (W.v.marked u) (W.v.marked v) e in record { source = z.0; goal = z.1 }

pub record ELeads (W : World) (u : ℕ) (p : Prev) (c : ℕ) : Type 0 where
  pub leads : link W.e u p ≡ c
  pub plain : tag_at W.e.tag p ≡ false

pub data EMeans (W : World) (l : ℤ) (u v : ℕ) (p : Prev) (c : ℕ) : ESeen → Type 0 where
  m_dead : DeadV W u v → EMeans W l u v p c e_dead
  m_again : EMeans W l u v p c e_again
  m_passes : ELeads W u p c → is_marked (W.e.tag c) ≡ true → EMeans W l u v p c e_passes
  m_marks : ELeads W u p c → W.e.tag c ≡ added → W.v.marked (W.e.target c) ≡ true → EMeans W l u v p c e_marks
  m_onward : ELeads W u p c → is_marked (W.e.tag c) ≡ false → W.e.key c <ℤ l → EMeans W l u v p c e_onward
  m_settle : Calm W u v → ELeads W u p c → is_marked (W.e.tag c) ≡ false → (W.e.tag c ≡ added → W.v.marked (W.e.target c) ≡ false)
      → (W.e.key c ≡ l) ⊎ (l <ℤ W.e.key c) → EMeans W l u v p c e_settle

pub emeans : (W : World) (l : ℤ) (u v : ℕ) (p : Prev) (c : ℕ) → EMeans W l u v p c (elook W l u v p c)
emeans W l u v p c =
    by (W.v.marked u || W.v.marked v) (eqb (link W.e u p) c && not (tag_at W.e.tag p)) (is_marked (W.e.tag c))
    (is_added (W.e.tag c)) (W.v.marked (W.e.target c)) (lt_z (W.e.key c) l) refl refl refl refl refl refl
  where
    lead : (eqb (link W.e u p) c && not (tag_at W.e.tag p)) ≡ true → ELeads W u p c
    lead e =
        let z = and_true (eqb (link W.e u p) c) (not (tag_at W.e.tag p)) e in
        record { leads = eqb-true (link W.e u p) c z.0; plain = not_true (tag_at W.e.tag p) z.1 }

    not_added : is_added (W.e.tag c) ≡ false → W.e.tag c ≡ added → ⊥
    not_added e f = clash (cc (ap is_added f))

    by : (d a m t x y : Bool) → (W.v.marked u || W.v.marked v) ≡ d → (eqb (link W.e u p) c && not (tag_at W.e.tag p)) ≡ a
        → is_marked (W.e.tag c) ≡ m → is_added (W.e.tag c) ≡ t → W.v.marked (W.e.target c) ≡ x → lt_z (W.e.key c) l ≡ y
        → EMeans W l u v p c (cond d e_dead (cond a (cond m e_passes (cond (t && x) e_marks (cond y e_onward e_settle))) e_again))
    by true a m t x y e1 e2 e3 e4 e5 e6 = m_dead (or_true (W.v.marked u) (W.v.marked v) e1)
    by false false m t x y e1 e2 e3 e4 e5 e6 = m_again
    by false true true t x y e1 e2 e3 e4 e5 e6 = m_passes (lead e2) e3
    by false true false true true y e1 e2 e3 e4 e5 e6 = m_marks (lead e2) (added_is (W.e.tag c) e4) e5
    by false true false true false true e1 e2 e3 e4 e5 e6 = m_onward (lead e2) e3 (lt_z_true (W.e.key c) l e6)
    by false true false true false false e1 e2 e3 e4 e5 e6 = m_settle (calm W u v e1) (lead e2) e3 (λ z. e5) (not_below (W.e.key c) l e6)
    by false true false false x true e1 e2 e3 e4 e5 e6 = m_onward (lead e2) e3 (lt_z_true (W.e.key c) l e6)
    by false true false false x false e1 e2 e3 e4 e5 e6 = m_settle (calm W u v e1) (lead e2) e3 (λ z. absurd (not_added e4 z)) (not_below (W.e.key c) l e6)

pub marked_is : (t : Tag) → is_marked t ≡ true → t ≡ marked
marked_is marked e = refl
marked_is transit e = clash (cc)
marked_is added e = clash (cc)
