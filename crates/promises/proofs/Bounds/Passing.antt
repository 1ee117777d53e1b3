-- A walk that moves on passes a node: one more stands below the key where it is now.
use Prim.Native.Nat.{ℕ, suc, ◌≤◌, ◌<◌}
use mathlib.Core.Bool.{Bool, true, false, not, ◌&&◌}
use mathlib.Core.Path.{◌≡◌}
use borrow.Author.Tests.{eq-eqb, ne_eqb, le-leb}
use lib.Dec.{eqb, leb}
use lib.IntN.{ℤ}
use lib.Signed.{◌<ℤ◌, lt_z, <ℤ_irrefl}
use Rattle.catalogue.specs.Tests.{pick}
use Rattle.laws.proofs.Keys.{risen}
use Rattle.laws.proofs.Rules.{not_true_false}
use Rattle.row.proofs.Base.{<ℤ-trans, lt_z_true}
use Rattle.row.specs.Lists.Edges.{InList}
use Rattle.row.proofs.Tests.{and_true}
use Rattle.row.specs.Machine.World.{World}
use Rattle.promises.proofs.Bounds.Counting.{count_more}
use Rattle.promises.proofs.Bounds.Far.{below, vertices_passed, among, edges_that, behind}

not_itself : (k : ℤ) → lt_z k k ≡ false
not_itself k = not_true_false (lt_z k k) (λ e. <ℤ_irrefl (lt_z_true k k e))

-- below a key is below every greater one
further : (a k l : ℤ) → k <ℤ l → lt_z a k ≡ true → lt_z a l ≡ true
further a k l h e = risen a l (<ℤ-trans (lt_z_true a k e) h)

pub both_hold : (a b c : Bool) → (b ≡ true → c ≡ true) → (a && b) ≡ true → (a && c) ≡ true
both_hold a b c f e = let z = and_true a b e in rw (z.0, f z.1)

picked : (a b c d : Bool) → (b ≡ true → c ≡ true) → pick a b d ≡ true → pick a c d ≡ true
picked true b c d f e = f e
picked false b c d f e = e

module _ (W : World) where
  pub vertex_passed : (c n : ℕ) → c < W.v.used → (c ≡ 1 → ⊥) → W.v.key c <ℤ W.v.key n → suc (vertices_passed W c) ≤ vertices_passed W n
  vertex_passed c n h d a =
      count_more (below W.v.key (W.v.key c)) (below W.v.key (W.v.key n)) W.v.used c h
      (rw (ne_eqb c 1 d, not_itself (W.v.key c))) (rw (ne_eqb c 1 d, risen (W.v.key c) (W.v.key n) a))
      (λ x l. both_hold (not (eqb x 1)) _ _ (further (W.v.key x) (W.v.key c) (W.v.key n) a))

  pub edge_passed : (done : ℕ → Bool) (x c n : ℕ) → InList W.e x c → W.e.key c <ℤ W.e.key n
      → suc (edges_that W (behind done x (W.e.key c))) ≤ edges_that W (behind done x (W.e.key n))
  edge_passed done x c n i a =
      count_more (among W.e.owner W.e.key (behind done x (W.e.key c))) (among W.e.owner W.e.key (behind done x (W.e.key n)))
      W.e.used c i.high
      (rw (le-leb 1 c i.low, eq-eqb (W.e.owner c) x i.own, not_itself (W.e.key c)))
      (rw (le-leb 1 c i.low, eq-eqb (W.e.owner c) x i.own, risen (W.e.key c) (W.e.key n) a))
      (λ e l. both_hold (leb 1 e) _ _ (picked (eqb (W.e.owner e) x) _ _ (done (W.e.owner e)) (further (W.e.key e) (W.e.key c) (W.e.key n) a)))
