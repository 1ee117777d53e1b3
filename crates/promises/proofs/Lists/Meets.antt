-- What a catalogue's walks meet, where it shows a good world: its live vertices,
-- and in each one's list the edges that are its own.
use Prim.Native.Nat.{ℕ, ◌≤◌, ◌<◌}
use mathlib.Core.Bool.{Bool, true, false, not, ◌&&◌}
use mathlib.Core.Logic.{inl, inr}
use mathlib.Core.Path.{◌≡◌, refl, sym, ap, ◌∙◌}
use native.Mathlib.Omega.{arith}
use lib.Dec.{eqb}
use lib.Signed.{◌<ℤ◌, <ℤ_irrefl}
use Rattle.catalogue.specs.Tests.{pick, member}
use Rattle.catalogue.specs.Catalogue.{Catalogue}
use Rattle.catalogue.specs.Live.{walk, next_vertex, first_edge, next_edge, vertices, edges_of, unmarked, is_live, live_vertices, live_edges_of}
use Rattle.laws.proofs.Picks.{clash}
use Rattle.laws.proofs.Members.{All, all_each, all_join, all_keep, map_all, member_keep}
use Rattle.laws.proofs.Distinct.{Distinct}
use Rattle.laws.proofs.Walks.{walk_above, walk_same}
use Rattle.row.proofs.Lists.LinkLaws.{run_tail, run_fold, no_tail}
use Rattle.row.specs.Lists.Links.{Run, stop, go}
use Rattle.row.proofs.Tests.{and_true, not_true}
use Rattle.row.specs.Lists.Store.{view, Stands}
use Rattle.row.specs.Lists.Edges.{Tag, marked, transit, added, head, at, is_marked, link, InList, Mine}
use Rattle.row.specs.Machine.World.{World, is_added}
use Rattle.row.proofs.Graphs.Good.{WGood}
use Rattle.row.proofs.Graphs.Graph.{added_is, added_plain}
use Rattle.promises.proofs.Showing.Shows.{Shows, Series, vertex_tag_of, edge_tag_of}
use Rattle.promises.proofs.Lists.Walked.{walk_mine, walk_climbs, walk_distinct, walk_meets}

-- an added edge in the list of u, with an unmarked target
pub record LiveIn (W : World) (u e : ℕ) : Type 0 where
  pub listed : InList W.e u e
  pub is : W.e.tag e ≡ added
  pub goal : W.v.marked (W.e.target e) ≡ false

module _ (C : Catalogue) (W : World) (s : Shows C W) (g : WGood W) where
  -- ---- vertices

  next_v : (x : ℕ) → x < W.v.used → (x ≡ 1 → ⊥) → next_vertex C x ≡ W.v.next x
  next_v x h d = rw (s.vlinks x h d)

  pub mark_v : (x : ℕ) → x < W.v.used → (x ≡ 1 → ⊥) → unmarked C x ≡ not (W.v.marked x)
  mark_v x h d = rw (s.vlinks x h d) (by (W.v.marked x))
    where
      by : (b : Bool) → pick (eqb (vertex_tag_of b) 1) false true ≡ not b
      by true = refl
      by false = refl

  rises_v : (x : ℕ) → x < W.v.used → (x ≡ 1 → ⊥) → (next_vertex C x < W.v.used) × (W.v.key x <ℤ W.v.key (next_vertex C x))
  rises_v x h d = let f = g.good.sound.sorted.follows x h d in rw (next_v x h d) (f.inside, f.above)

  some_v : 0 < W.v.used
  some_v = omega (arith, g.good.sound.some)

  start_v : (next_vertex C 0 < W.v.used) × (W.v.key 0 <ℤ W.v.key (next_vertex C 0))
  start_v = rises_v 0 some_v (λ e. omega arith)

  -- on the vertex walk: handed out
  pub met_v : All (Series W.v.used) (vertices C)
  met_v =
      all_each (λ x. ((x < W.v.used) × (x ≡ 1 → ⊥)) × (W.v.key 0 <ℤ W.v.key x)) (Series W.v.used)
      (λ x p. let n = p.0.1 in let d : x ≡ 0 → ⊥ = λ q. <ℤ_irrefl {a = W.v.key 0} (rw q at p.1) in record { low = omega arith; high = p.0.0 }) (vertices C)
      (all_join (λ x. (x < W.v.used) × (x ≡ 1 → ⊥)) (λ x. W.v.key 0 <ℤ W.v.key x) (vertices C)
      (walk_mine (next_vertex C) 1 W.v.key (λ y. y < W.v.used) rises_v 256 (next_vertex C 0) start_v.0)
      (map_all (λ k. W.v.key 0 <ℤ k) W.v.key (vertices C)
      (walk_above (next_vertex C) 1 W.v.key 256 (next_vertex C 0)
      (walk_climbs (next_vertex C) 1 W.v.key (λ y. y < W.v.used) rises_v 256 (next_vertex C 0) start_v.0) (W.v.key 0) start_v.1)))

  pub distinct_v : Distinct (vertices C)
  distinct_v = walk_distinct (next_vertex C) 1 W.v.key (λ y. y < W.v.used) rises_v 256 (next_vertex C 0) start_v.0

  run_v : (x : ℕ) → Stands W.v x → Run (next_vertex C) 1 x 0
  run_v x l =
      run_fold 0 1 (view W.v) g.good.sound.sorted (next_vertex C) x (λ a m d r. go d (rw (next_v a m d) r)) some_v
      (g.good.sound.sorted.linked x l.high l.plain)

  pub meets_v : (x : ℕ) → Stands W.v x → member x (vertices C) ≡ true
  meets_v x l =
      let a = l.low in
      walk_meets (next_vertex C) 1 W.v.key (λ y. y < W.v.used) rises_v 256 (next_vertex C 0) start_v.0
      (λ y h. omega (arith, s.vertices, s.vertices_fit)) (omega arith) x (run_tail (λ e. omega arith) (run_v x l)) (λ e. omega arith)

  pub live_v : All (Stands W.v) (live_vertices C)
  live_v =
      all_each (λ x. Series W.v.used x × (unmarked C x ≡ true)) (Stands W.v)
      (λ x z.
      let m = z.0 in
      let a = m.low in
      record { low = a; high = m.high; plain = not_true (W.v.marked x) (sym (mark_v x m.high (λ e. omega arith)) ∙ z.1) })
      (live_vertices C) (all_keep (Series W.v.used) (unmarked C) (vertices C) met_v)

  pub v_live : (x : ℕ) → Stands W.v x → member x (live_vertices C) ≡ true
  v_live x l = let a = l.low in member_keep (unmarked C) x (vertices C) (meets_v x l) (mark_v x l.high (λ e. omega arith) ∙ ap not l.plain)

  -- ---- the edges of a vertex

  module _ (u : ℕ) (low : 2 ≤ u) (high : u < W.v.used) where
    abbrev Own : ℕ → Type 0
    Own e = Mine W.e u (at e)

    next_e : (e : ℕ) → Own e → (e ≡ 0 → ⊥) → next_edge C e ≡ W.e.next e
    next_e e m d = let i = no_tail W.e u e m d in rw (s.elinks e i.low i.high)

    rises_e : (e : ℕ) → Own e → (e ≡ 0 → ⊥) → Own (next_edge C e) × (W.e.key e <ℤ W.e.key (next_edge C e))
    rises_e e m d = let f = (g.esound.sorted u).follows (at e) m (λ q. d (cc)) in rw (next_e e m d) (f.inside, f.above)

    first_is : first_edge C u ≡ W.e.first u
    first_is = rw (s.firsts u low high)

    start_e : Own (first_edge C u)
    start_e = rw first_is ((g.esound.sorted u).follows head tt (λ q. clash (cc))).inside

    -- the walk is that of the world's links
    pub edges_walk : edges_of C u ≡ walk W.e.next 0 2048 (W.e.first u)
    edges_walk =
        walk_same (next_edge C) W.e.next 0 Own (λ e m d. ((rises_e e m d).0, next_e e m d)) 2048 (first_edge C u) start_e
        ∙ ap (walk W.e.next 0 2048) first_is

    pub listed_in : All (InList W.e u) (edges_of C u)
    listed_in =
        all_each (λ e. Own e × (e ≡ 0 → ⊥)) (InList W.e u) (λ e p. no_tail W.e u e p.0 p.1) (edges_of C u)
        (walk_mine (next_edge C) 0 W.e.key Own rises_e 2048 (first_edge C u) start_e)

    pub distinct_e : Distinct (edges_of C u)
    distinct_e = walk_distinct (next_edge C) 0 W.e.key Own rises_e 2048 (first_edge C u) start_e

    run_e : (e c : ℕ) → Own c → Run (λ y. at (link W.e u y)) (at 0) (at e) (at c) → Run (next_edge C) 0 e c
    run_e e c m (stop q) = stop {a = c} (cc)
    run_e e c m (go d r) =
        let n : c ≡ 0 → ⊥ = λ q. d (ap at q) in
        go n (rw (next_e c m n) (run_e e (W.e.next c) ((g.esound.sorted u).follows (at c) m d).inside r))

    pub meets_e : (e : ℕ) → InList W.e u e → is_marked (W.e.tag e) ≡ false → member e (edges_of C u) ≡ true
    meets_e e i t =
        let a = i.low in
        let r = run_tail (λ q. clash (cc)) ((g.esound.sorted u).linked (at e) (inr i) t) in
        walk_meets (next_edge C) 0 W.e.key Own rises_e 2048 (first_edge C u) start_e below (omega arith) e
        (rw first_is (run_e e (W.e.first u) (rw first_is at start_e) r)) (λ q. omega arith)
      where
        below : (x : ℕ) → Own x → x < 2048
        below x (inl z) = omega arith
        below x (inr j) = omega (arith, j.high, s.edges, s.edges_fit)

  live_is : (e : ℕ) → 1 ≤ e → e < W.e.used → is_live C e ≡ (is_added (W.e.tag e) && not (W.v.marked (W.e.target e)))
  live_is e l h =
      let w = g.ends e l h in
      let a = w.target_low in
      rw (s.elinks e l h, s.targets e l h, mark_v (W.e.target e) w.target_high (λ q. omega arith)) (by (W.e.tag e))
    where
      by : (t : Tag) → pick (eqb (edge_tag_of t) 3) (not (W.v.marked (W.e.target e))) false ≡ (is_added t && not (W.v.marked (W.e.target e)))
      by marked = refl
      by transit = refl
      by added = refl

  pub live_e : (u : ℕ) → Stands W.v u → All (LiveIn W u) (live_edges_of C u)
  live_e u l =
      all_each (λ e. InList W.e u e × (is_live C e ≡ true)) (LiveIn W u)
      (λ e z.
      let j = z.0 in
      let b = and_true (is_added (W.e.tag e)) (not (W.v.marked (W.e.target e))) (sym (live_is e j.low j.high) ∙ z.1) in
      record { listed = j; is = added_is (W.e.tag e) b.0; goal = not_true (W.v.marked (W.e.target e)) b.1 })
      (live_edges_of C u) (all_keep (InList W.e u) (is_live C) (edges_of C u) (listed_in u l.low l.high))

  pub e_live : (u e : ℕ) → Stands W.v u → LiveIn W u e → member e (live_edges_of C u) ≡ true
  e_live u e l i =
      let j = i.listed in
      member_keep (is_live C) e (edges_of C u) (meets_e u l.low l.high e j (added_plain (W.e.tag e) i.is))
      (live_is e j.low j.high ∙ rw (i.is, i.goal))
