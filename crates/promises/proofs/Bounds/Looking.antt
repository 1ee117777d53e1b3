-- A step of a call that only looks, and is not replied to, takes it further:
-- it moves on to a greater key, or to the next walk.
use Prim.Native.Nat.{ℕ, suc, ◌≤◌, ◌<◌}
use mathlib.Core.Bool.{Bool, true, false, cond, not, ◌&&◌, ◌||◌}
use mathlib.Core.Logic.{inl}
use mathlib.Core.Option.{none}
use mathlib.Core.Path.{◌≡◌, refl}
use native.Mathlib.Omega.{arith}
use lib.Dec.{eqb}
use lib.IntN.{ℤ}
use lib.Signed.{lt_z}
use Rattle.catalogue.specs.Tests.{eq_z}
use Rattle.laws.proofs.Picks.{clash}
use Rattle.row.proofs.Base.{lt_z_true}
use Rattle.row.specs.Machine.Vertices.{ConV, going, replies}
use Rattle.row.specs.Lists.Edges.{at, Mine}
use Rattle.row.specs.Machine.World.{World, cons, Spot, Vert, FindU, FindV, ConE, Next, goes, says, is_added}
use Rattle.row.specs.Machine.Moves.{vmove, lower, found, missing, find_u, find_v, move}
use Rattle.row.proofs.Steps.VertexDeeds.{Legal, not_tail}
use Rattle.row.proofs.Graphs.Good.{WGood}
use Rattle.row.proofs.Lists.LinkLaws.{no_tail}
use Rattle.row.proofs.Steps.EdgeMeans.{below_tail}
use Rattle.promises.proofs.Bounds.Far.{vertices_passed, far, limit, EnteredSpot, vertices_most}
use Rattle.promises.proofs.Bounds.Passing.{vertex_passed, edge_passed}

-- where a call is after a step: further, and under the same limit
pub record Further (W : World) (s : Spot) (n : Next) : Type 0 where
  pub same : limit n.spot ≡ limit s
  pub enters : EnteredSpot n.spot
  pub rises : suc (far W s) ≤ far n.world n.spot

-- what goes on without a reply is further
abbrev pub OnlyFurther : World → Spot → Next → Type 0
OnlyFurther W s n = n.answer ≡ none → Further W s n

module _ (W : World) (g : WGood W) where
  -- a vertex of a lower key is passed
  passes_on : (c : ℕ) (k : ℤ) → Legal k → c < W.v.used → lt_z (W.v.key c) k ≡ true → suc (vertices_passed W c) ≤ vertices_passed W (W.v.next c)
  passes_on c k h l e =
      let n = not_tail W.v g.good k h {c = c} (inl (lt_z_true (W.v.key c) k e)) in
      vertex_passed W c (W.v.next c) l n (g.good.sound.sorted.follows c l n).above

  pub con_v_further : (k : ℤ) (c : ℕ) → Legal k → c < W.v.used → OnlyFurther W (Vert (ConV k c)) (move W (Vert (ConV k c)))
  con_v_further k c h l = by (lt_z (W.v.key c) k) refl (eq_z (W.v.key c) k && not (W.v.marked c))
    where
      by : (a : Bool) → lt_z (W.v.key c) k ≡ a → (b : Bool)
          → OnlyFurther W (Vert (ConV k c)) (vmove W (cond a (going W.v (ConV k (W.v.next c))) (cond b (replies W.v 1) (replies W.v 2))))
      by true e b q = record { same = refl; enters = tt; rises = passes_on c k h l e }
      by false e true q = clash (cc)
      by false e false q = clash (cc)

  -- a walk at the head's next has passed the head
  pub head_passed : 1 ≤ vertices_passed W (W.v.next 0)
  head_passed =
      let l : 0 < W.v.used = omega (arith, g.good.sound.some) in
      let n : ◌≡◌ {A = ℕ} 0 1 → ⊥ = λ z. omega arith in
      omega (arith, vertex_passed W 0 (W.v.next 0) l n (g.good.sound.sorted.follows 0 l n).above)

  module _ (few : W.v.used ≤ 256) where
    pub find_u_further : (k l : ℤ) (c : ℕ) → Legal k → c < W.v.used → OnlyFurther W (FindU cons k l c) (move W (FindU cons k l c))
    find_u_further k l c h i = by (lt_z (W.v.key c) k) refl (eq_z (W.v.key c) k && not (W.v.marked c))
      where
        by : (a : Bool) → lt_z (W.v.key c) k ≡ a → (b : Bool) → OnlyFurther W (FindU cons k l c) (find_u W cons k l c (cond a lower (cond b found missing)))
        by true e b q = record { same = refl; enters = tt; rises = passes_on c k h i e }
        by false e true q = record { same = refl; enters = tt; rises = omega (arith, vertices_most W few c, head_passed) }
        by false e false q = clash (cc)

    pub find_v_further : (k l : ℤ) (u c : ℕ) → Legal l → c < W.v.used → OnlyFurther W (FindV cons k l u c) (move W (FindV cons k l u c))
    find_v_further k l u c h i = by (lt_z (W.v.key c) l) refl (eq_z (W.v.key c) l && not (W.v.marked c))
      where
        by : (a : Bool) → lt_z (W.v.key c) l ≡ a → (b : Bool) → OnlyFurther W (FindV cons k l u c) (find_v W cons k l u c (cond a lower (cond b found missing)))
        by true e b q = record { same = refl; enters = tt; rises = omega (arith, passes_on c l h i e) }
        by false e true q = record { same = refl; enters = tt; rises = omega (arith, vertices_most W few c) }
        by false e false q = clash (cc)

  pub con_e_further : (k l : ℤ) (u v c : ℕ) → Legal l → Mine W.e u (at c) → OnlyFurther W (ConE k l u v c) (move W (ConE k l u v c))
  con_e_further k l u v c h m =
      by (lt_z (W.e.key c) l) refl (W.v.marked u || W.v.marked v) (eq_z (W.e.key c) l && (is_added (W.e.tag c) && eqb (W.e.target c) v))
    where
      by : (a : Bool) → lt_z (W.e.key c) l ≡ a → (b d : Bool)
          → OnlyFurther W (ConE k l u v c) (cond a (goes W (ConE k l u v (W.e.next c))) (cond b (says W 8) (cond d (says W 1) (says W 8))))
      by true e b d q =
          let n = below_tail W g l h c (inl (lt_z_true (W.e.key c) l e)) in
          let up = edge_passed W (λ x. false) u c (W.e.next c) (no_tail W.e u c m n) ((g.esound.sorted u).follows (at c) m (λ z. n (cc))).above in
          record { same = refl; enters = tt; rises = omega (arith, up) }
      by false e true d q = clash (cc)
      by false e false true q = clash (cc)
      by false e false false q = clash (cc)
