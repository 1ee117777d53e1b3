-- Where a look settles and has found no such key, what was to be added is not in the live graph.
use Prim.Native.Nat.{ℕ, ◌≤◌, ◌<◌}
use mathlib.Core.Bool.{true, false}
use mathlib.Core.Logic.{inl, inr}
use mathlib.Core.Path.{◌≡◌, refl, ap, ◌∙◌}
use native.Mathlib.Omega.{arith}
use lib.IntN.{ℤ}
use Rattle.catalogue.specs.Catalogue.{Catalogue}
use Rattle.catalogue.specs.Choosing.{Moment}
use Rattle.catalogue.specs.Workers.{worker_at}
use Rattle.catalogue.specs.Steps.Edges.{look_at_edge}
use Rattle.catalogue.specs.declared.steps.VertexSeen.{VertexSeen}
use Rattle.catalogue.specs.declared.steps.VertexSeen.TheVariants as vertex_seen
use Rattle.catalogue.specs.declared.steps.EdgeSeen.{EdgeSeen}
use Rattle.catalogue.specs.declared.steps.EdgeSeen.TheVariants as edge_seen
use Rattle.catalogue.specs.declared.workers.Place.{Place}
use Rattle.catalogue.specs.declared.workers.Place.TheVariants as place
use Rattle.catalogue.specs.declared.workers.Worker.{Worker}
use Rattle.laws.proofs.Picks.{clash}
use Rattle.row.proofs.Tests.{eq_z_yes}
use Rattle.row.specs.Lists.Store.{Cat, Good}
use Rattle.row.specs.Lists.Edges.{Prev}
use Rattle.row.proofs.Graphs.Good.{WGood}
use Rattle.row.specs.Machine.Vertices.{Seen, AddV, live}
use Rattle.row.specs.Machine.World.{World, Vert, edges}
use Rattle.row.specs.Machine.Moves.{ESeen}
use Rattle.row.specs.Machine.Choices.{Conf}
use Rattle.row.proofs.Steps.VertexDeeds.{Legal, Aims, Means, m_settle, means, absent}
use Rattle.row.proofs.Steps.Spots.{EAims, Pair, Ok}
use Rattle.row.proofs.Steps.EdgeMeans
use Rattle.row.proofs.Steps.EdgeMeans.{EMeans, emeans}
use Rattle.row.proofs.Steps.Doing.{live_u, live_v, absent_gap}
use Rattle.promises.specs.Graphs
use Rattle.promises.specs.Moments.{place_of}
use Rattle.promises.specs.Outside.{Lacks, a_vertex, an_edge, Needed, a_series, a_derivation}
use Rattle.promises.proofs.Showing.Shows.{Stands, at_look}
use Rattle.promises.proofs.Showing.Pools.{series_of}
use Rattle.promises.proofs.Lists.Live.{series_is, derived_is}
use Rattle.promises.proofs.Steps.VertexLooks.{Looked, sees_again, sees_gone, sees_lower, sees_equal, sees_above, looked}
use Rattle.promises.proofs.Steps.EdgeLooks.{Sees, dead, again, passes, marks, onward, equal, other, sees}
use Rattle.promises.proofs.Runs.Held.{Held}
use Rattle.promises.proofs.Outside.Spots.{Looks, adds_vertex_spot, adds_spot}
use Rattle.catalogue.specs.declared.steps.Landed.{Landed}

-- AddV: p's key is below k, and c's above it
no_vertex : (D : Cat) → Good D → (k : ℤ) → Legal k → (p c : ℕ) → Aims D k p → (x : VertexSeen) (y : Seen) (next : ℕ) → x ≡ vertex_seen.Settles next false
    → Looked D k p c x y → Means D k p c y → live D k ≡ false
no_vertex D g k a p c i x y next q sees_again m = clash (cc)
no_vertex D g k a p c i x y next q (sees_gone j e h n) m = clash (cc)
no_vertex D g k a p c i x y next q sees_lower m = clash (cc)
no_vertex D g k a p c i x y next q (sees_equal h n e) m = clash (cc)
no_vertex D g k a p c i x y next q (sees_above n j e d) (m_settle w u (inl h)) = clash (cc (eq_z_yes (D.key c) k h))
no_vertex D g k a p c i x y next q (sees_above n j e d) (m_settle w u (inr h)) = absent D g k a i w h

-- AddE: neither u nor v is marked, and the same holds in the list of u
record NoEdge (W : World) (k l : ℤ) : Type 0 where
  source : live W.v k ≡ true
  goal : live W.v l ≡ true
  none : edges W k l ≡ false

module _ (W : World) (g : WGood W) (k l : ℤ) (u v : ℕ) (pair : Pair W k l u v) (p : Prev) (c : ℕ) (aims : EAims W.e u l p) where
  no_edge : (x : EdgeSeen) (y : ESeen) (at : Landed) → x ≡ edge_seen.Settles at → at.equal ≡ false → Sees W l u p c x y → EMeans W l u v p c y → NoEdge W k l
  no_edge x y at q i dead m = clash (cc)
  no_edge x y at q i again m = clash (cc)
  no_edge x y at q i (passes lead o) m = clash (cc)
  no_edge x y at q i (marks o) m = clash (cc)
  no_edge x y at q i (onward o) m = clash (cc)
  no_edge x y at q i (equal lead o e t f n) m = clash (cc)
  no_edge x y at q i (other lead e r s) (EdgeMeans.m_settle m w n f (inl h)) = clash (cc (eq_z_yes (W.e.key c) l h))
  no_edge x y at q i (other lead e r s) (EdgeMeans.m_settle m w n f (inr h)) = record {
    source = live_u W g k l u v pair m;
    goal = live_v W g k l u v pair m;
    none = absent_gap W g k l u v pair aims w m.source h;
  }

module _ (workers : ℕ) (m : Moment) (X : Conf) (h : Held workers m X) (most : workers ≤ 8) (w : ℕ) (low : w < workers) where
  abbrev C : Catalogue
  C = m.catalogue

  abbrev W : World
  W = X.world

  abbrev r : Worker
  r = worker_at m.table w

  needs : (pl : Place) → r.place ≡ pl → Lacks C pl → Needed (Graphs.live C) pl
  needs (place.AddV k p c) is (a_vertex next q full) =
      let s = adds_vertex_spot W.v.used r (X.at w) (h.shown w (omega arith)).stands k p c is in
      let ok : Ok W (Vert (AddV k p c)) = rw s at (h.fine.ok w) in
      let g = h.fine.good in
      a_series
      (series_is C W h.shows g k
      ∙ no_vertex W.v g.good k ok.0 p c ok.1 _ _ next q (looked C W h.shows g.good k ok.0 p c ok.1) (means W.v k p c))
  needs (place.AddE ends p c) is (an_edge at q new full) = by (adds_spot W.v.used r (X.at w) (h.shown w (omega arith)).stands ends p c is)
    where
      by : Looks ends p c (X.at w) → Needed (Graphs.live C) (place.AddE ends p c)
      by s =
          let k = ends.pair.k in
          let l = ends.pair.l in
          let b = s.behind in
          let ok : Ok W (at_look true ends b c) = rw s.is at (h.fine.ok w) in
          let st : Stands W.v.used r (at_look true ends b c) = rw s.is at (h.shown w (omega arith)).stands in
          let g = h.fine.good in
          let seen = sees C W h.shows g l ends.u b c ok.0.legal ok.1 k ends.v st.1 (series_of ok.0.source) (series_of ok.0.goal) in
          let z = no_edge W g k l ends.u ends.v ok.0 b c ok.1 _ _ at (ap (λ q. look_at_edge C ends q c) s.same ∙ q) new seen (emeans W l ends.u ends.v b c) in
          a_derivation (series_is C W h.shows g k ∙ z.source) (series_is C W h.shows g l ∙ z.goal) (derived_is C W h.shows g k l ∙ z.none)
  needs pl is z = elim z [ ]

  pub needed : Lacks C (place_of m w) → Needed (Graphs.live C) (place_of m w)
  needed z = needs (place_of m w) refl z
