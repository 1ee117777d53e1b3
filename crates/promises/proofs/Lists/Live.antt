-- The live graph of a catalogue that shows a good world is that world's graph, and has no loop.
use Prim.Native.Nat.{ℕ}
use mathlib.Core.Bool.{true}
use mathlib.Core.Path.{◌≡◌, refl, sym, ◌∙◌}
use lib.IntN.{ℤ}
use Rattle.catalogue.specs.Tests.{member}
use Rattle.catalogue.specs.Catalogue.{Catalogue, vertex_key, edge_key}
use Rattle.catalogue.specs.Live.{live_vertices, live_edges_of, live_edges, live_keys, live_pairs}
use Rattle.laws.proofs.Members.{All, all_each, all_map, map_all, all_of}
use Rattle.laws.proofs.Gathers.{all_live, live_all}
use Rattle.row.proofs.Tests.{bool_iff}
use Rattle.row.specs.Lists.Store.{Stands}
use Rattle.row.specs.Machine.Vertices
use Rattle.row.specs.Machine.World.{World, edges}
use Rattle.row.proofs.Graphs.LiveSet.{present_yes, yes_present}
use Rattle.row.proofs.Graphs.Good.{WGood}
use Rattle.row.proofs.Graphs.Graph.{edge_yes, yes_edge}
use Rattle.row.proofs.Graphs.Loops
use Rattle.row.proofs.Graphs.Loops.{end, via, loopless}
use Rattle.promises.specs.Graphs.{live, Walk, here, over, among, same_pair}
use Rattle.promises.proofs.Showing.Shows.{Shows}
use Rattle.promises.proofs.Lists.Meets.{LiveIn, live_v, v_live, live_e, e_live}
use Rattle.promises.proofs.Lists.Among.{of_keys, all_keys, of_pairs, all_pairs}

-- a live edge in the list of a live vertex
pub edge_derived : (C : Catalogue) (x e : ℕ) → member x (live_vertices C) ≡ true → member e (live_edges_of C x) ≡ true
    → (live C).derived (vertex_key C x) (edge_key C e) ≡ true
edge_derived C x e m n =
    all_of (There x) (live_edges_of C x)
    (all_of (λ x. All (There x) (live_edges_of C x)) (live_vertices C)
    (live_all There (live_edges_of C) (live_vertices C)
    (map_all (λ p. among same_pair p (live_pairs C) ≡ true) (λ d. (vertex_key C d.source, edge_key C d.edge)) (live_edges C) (all_pairs (live_pairs C)))) x m)
    e n
  where
    There : ℕ → ℕ → Type 0
    There x e = (live C).derived (vertex_key C x) (edge_key C e) ≡ true

module _ (C : Catalogue) (W : World) (s : Shows C W) (g : WGood W) where
  vkey : (x : ℕ) → Stands W.v x → vertex_key C x ≡ W.v.key x
  vkey x l = s.vkeys x l.high

  ekey : {u : ℕ} (e : ℕ) → LiveIn W u e → edge_key C e ≡ W.e.key e
  ekey e i = s.ekeys e i.listed.high

  -- ---- vertices

  vertex_read : (k : ℤ) → (live C).series k ≡ true → Vertices.live W.v k ≡ true
  vertex_read =
      of_keys (λ k. Vertices.live W.v k ≡ true) (live_keys C)
      (all_map (λ k. Vertices.live W.v k ≡ true) (vertex_key C) (live_vertices C) (all_each (Stands W.v) (λ x. Vertices.live W.v (vertex_key C x) ≡ true)
      (λ x l. present_yes {C = W.v} (record { node = x; low = l.low; high = l.high; plain = l.plain; holds = sym (vkey x l) }))
      (live_vertices C) (live_v C W s g)))

  vertex_there : (k : ℤ) → Vertices.live W.v k ≡ true → (live C).series k ≡ true
  vertex_there k e =
      let p = yes_present W.v k e in
      let l : Stands W.v p.node = record { low = p.low; high = p.high; plain = p.plain } in
      rw (vkey p.node l ∙ p.holds) at
      (all_of (λ x. (live C).series (vertex_key C x) ≡ true) (live_vertices C)
      (map_all (λ k. (live C).series k ≡ true) (vertex_key C) (live_vertices C) (all_keys (live_keys C))) p.node (v_live C W s g p.node l))

  pub series_is : (k : ℤ) → (live C).series k ≡ Vertices.live W.v k
  series_is k = bool_iff ((live C).series k) (Vertices.live W.v k) (vertex_read k) (vertex_there k)

  -- ---- edges

  of_edge : (u e : ℕ) → Stands W.v u → LiveIn W u e → edges W (vertex_key C u) (edge_key C e) ≡ true
  of_edge u e v i =
      let o = i.listed.own in
      edge_yes W (vertex_key C u) (edge_key C e) (record {
        node = e;
        low = i.listed.low;
        high = i.listed.high;
        is = i.is;
        source = rw o v.plain;
        goal = i.goal;
        leaves = rw o (sym (vkey u v));
        comes = sym (ekey e i);
      })

  edge_read : (k l : ℤ) → (live C).derived k l ≡ true → edges W k l ≡ true
  edge_read k l =
      of_pairs (λ p. edges W p.0 p.1 ≡ true) (live_pairs C)
      (all_map (λ p. edges W p.0 p.1 ≡ true) (λ d. (vertex_key C d.source, edge_key C d.edge)) (live_edges C)
      (all_live Edge (live_edges_of C) (live_vertices C) (all_each (Stands W.v) (λ u. All (Edge u) (live_edges_of C u))
      (λ u v. all_each (LiveIn W u) (Edge u) (λ e i. of_edge u e v i) (live_edges_of C u) (live_e C W s g u v)) (live_vertices C) (live_v C W s g))))
      (k, l)
    where
      Edge : ℕ → ℕ → Type 0
      Edge u e = edges W (vertex_key C u) (edge_key C e) ≡ true

  edge_there : (k l : ℤ) → edges W k l ≡ true → (live C).derived k l ≡ true
  edge_there k l t =
      let p = yes_edge W k l t in
      let w = g.ends p.node p.low p.high in
      let u = W.e.owner p.node in
      let v : Stands W.v u = record { low = w.source_low; high = w.source_high; plain = p.source } in
      let e : LiveIn W u p.node = record { listed = record { low = p.low; high = p.high; own = refl }; is = p.is; goal = p.goal } in
      rw (vkey u v ∙ p.leaves, ekey p.node e ∙ p.comes) at (edge_derived C u p.node (v_live C W s g u v) (e_live C W s g u p.node v e))

  pub derived_is : (k l : ℤ) → (live C).derived k l ≡ edges W k l
  derived_is k l = bool_iff ((live C).derived k l) (edges W k l) (edge_read k l) (edge_there k l)

  -- ---- no loop

  walk_is : {to from : ℤ} → Walk (live C) to from → Loops.Walk (edges W) to from
  walk_is here = end refl
  walk_is (over {from} next e w) = via next (sym (derived_is from next) ∙ e) (walk_is w)

  pub no_loop_here : (k l : ℤ) → (live C).derived k l ≡ true → Walk (live C) k l → ⊥
  no_loop_here k l e w = loopless W g k l (sym (derived_is k l) ∙ e) (walk_is w)
