-- One step of ConE among the edges of u is one move of the machine of `row`.
-- The machine asks for the marks of u and v first, the definition last;
-- both reply 1 only if all is as asked, and else 8.
use Prim.Native.Nat.{ℕ, ◌≤◌, ◌<◌}
use mathlib.Core.Bool.{Bool, true, false, cond, ◌&&◌, ◌||◌}
use mathlib.Core.Path.{◌≡◌, refl, ◌∙◌}
use mathlib.Core.Logic.{◌⊎◌, inl, inr}
use native.Mathlib.Omega.{arith}
use borrow.Author.Tests.{lt-ltb}
use lib.IntN.{ℤ}
use lib.Dec.{eqb}
use lib.Signed.{◌<ℤ◌, lt_z}
use Rattle.catalogue.specs.Tests.{pick, eq_z}
use Rattle.catalogue.specs.Numbers.{added}
use Rattle.catalogue.specs.Catalogue.{Catalogue, edge_link, at_link}
use Rattle.catalogue.specs.Steps.Both.{at_both}
use Rattle.catalogue.specs.Steps.Contains.{settle_contains_edge, step_contains_edge}
use Rattle.catalogue.specs.Steps.Decide.{decide}
use Rattle.catalogue.specs.declared.steps.BothSeen.TheVariants as both
use Rattle.catalogue.specs.declared.steps.Decision.{Decision}
use Rattle.catalogue.specs.declared.steps.Decision.TheVariants as decision
use Rattle.catalogue.specs.declared.workers.Place.TheVariants as place
use Rattle.catalogue.specs.declared.workers.Worker.{Worker}
use Rattle.catalogue.specs.declared.writes.Write.TheVariants.{Nothing}
use Rattle.row.proofs.Base.{lt_z_true}
use Rattle.row.proofs.Steps.Spots.{Pair}
use Rattle.row.specs.Lists.Edges.{Tag, at, Mine}
use Rattle.row.specs.Lists.Edges
use Rattle.row.proofs.Graphs.Good.{WGood}
use Rattle.laws.proofs.Rules.{eq_z_eq}
use Rattle.row.specs.Machine.World.{World, ConE, goes, says, is_added}
use Rattle.row.specs.Machine.Moves.{move}
use Rattle.promises.proofs.Showing.Shows.{Shows, Asked, Follows, edge_tag_of, between}
use Rattle.promises.proofs.Showing.Marks.{both_seen}
use Rattle.promises.proofs.Showing.Pools.{edges_in_pool, series_of}
use Rattle.row.proofs.Lists.LinkLaws.{no_tail}
use Rattle.row.proofs.Steps.EdgeMeans.{below_tail}
use Rattle.promises.proofs.Steps.Deciding.{FollowsAt, decides, walks_on, says_so}

module _ (C : Catalogue) (W : World) (s : Shows C W) (g : WGood W) (k l : ℤ) (u v c : ℕ) (pr : Pair W k l u v) (mine : Mine W.e u (at c)) where
  -- c is the tail or handed out
  handed : c < W.e.used
  handed = elim mine [ inl q ↦ omega (arith, g.esound.some) | inr o ↦ o.high ]

  in_pool : c < 2048
  in_pool = omega (arith, handed, edges_in_pool C W s)

  -- the key is not above l, so c is not the tail
  inner : (W.e.key c <ℤ l) ⊎ (W.e.key c ≡ l) → 1 ≤ c
  inner h = (no_tail W.e u c mine (below_tail W g l pr.legal c h)).low

  abbrev dead : Bool
  dead = W.v.marked u || W.v.marked v

  abbrev leads : Bool
  leads = is_added (W.e.tag c) && eqb (W.e.target c) v

  -- the reply at an edge whose key is not lower
  abbrev number : Bool → Bool → ℕ
  number d x = cond d 8 (cond x 1 8)

  settles : 1 ≤ c → settle_contains_edge C (between k l u v) c ≡ decision.Reply (number dead leads) Nothing
  unfolding settle_contains_edge
  settles low =
      rw (s.elinks c low handed, s.targets c low handed, both_seen C W s u v (series_of pr.source) (series_of pr.goal))
      (by (W.e.tag c) (eqb (W.e.target c) v) dead)
    where
      by : (t : Tag) (y d : Bool)
          → pick (eqb (edge_tag_of t) added)
          (pick y (at_both (cond d both.Dead both.Standing) decision.Torn (decision.Reply 8 Nothing) (decision.Reply 1 Nothing)) (decision.Reply 8 Nothing))
          (decision.Reply 8 Nothing) ≡ decision.Reply (number d (is_added t && y)) Nothing
      by Edges.marked y true = refl
      by Edges.marked y false = refl
      by Edges.transit y true = refl
      by Edges.transit y false = refl
      by Edges.added true true = refl
      by Edges.added true false = refl
      by Edges.added false true = refl
      by Edges.added false false = refl

  module _ (w : Worker) where
    abbrev Decides : Decision → Type 0
    Decides d = decide C w ≡ d

    says_number : (d x : Bool) → Decides (decision.Reply (number d x) Nothing) → Follows C w (cond d (says W 8) (cond x (says W 1) (says W 8)))
    says_number true x e = says_so C W s w 8 e
    says_number false true e = says_so C W s w 1 e
    says_number false false e = says_so C W s w 8 e

    contains : Asked (place.ConE (between k l u v) c) → Decides (step_contains_edge C (between k l u v) c) → Follows C w (move W (ConE k l u v c))
    unfolding step_contains_edge
    contains a d = by (lt_z (W.e.key c) l) (eq_z (W.e.key c) l) refl refl (rw (lt-ltb c 2048 in_pool, s.ekeys c handed) at d)
      where
        by : (b q : Bool) → lt_z (W.e.key c) l ≡ b → eq_z (W.e.key c) l ≡ q
            → Decides
            (pick b (at_link (edge_link C c) decision.Torn (λ next tag. decision.Going (place.ConE (between k l u v) next) Nothing))
            (pick q (settle_contains_edge C (between k l u v) c) (decision.Reply 8 Nothing)))
            → Follows C w (cond b (goes W (ConE k l u v (W.e.next c))) (cond dead (says W 8) (cond (q && leads) (says W 1) (says W 8))))
        by true q e f d =
            walks_on C W s w (place.ConE (between k l u v) (W.e.next c)) (ConE k l u v (W.e.next c))
            (d ∙ rw (s.elinks c (inner (inl (lt_z_true (W.e.key c) l e))) handed)) a refl
        by false true e f d = says_number dead leads (d ∙ settles (inner (inr (eq_z_eq (W.e.key c) l f))))
        by false false e f d = says_number dead false (d ∙ eight dead)
          where
            eight : (x : Bool) → decision.Reply 8 Nothing ≡ decision.Reply (number x false) Nothing
            eight true = refl
            eight false = refl

pub con_e_follows : (k l : ℤ) (u v c : ℕ) → FollowsAt (ConE k l u v c)
con_e_follows k l u v c C W s g w o n =
    let d = decides C w (place.ConE (between k l u v) c) n.stands n.asked in
    contains C W s g k l u v c o.0 o.1 w d.0 d.1
