-- The walks of catalogues that agree, and the live vertices and edges on them,
-- are the same lists of numbers in their pools.
use Prim.Native.Nat.{ℕ, ◌<◌}
use mathlib.Core.Bool.{Bool}
use mathlib.Core.List.{List, map}
use mathlib.Core.Path.{◌≡◌, ap, ◌∙◌}
use native.Mathlib.Omega.{arith}
use Rattle.catalogue.specs.Tests.{keep}
use Rattle.catalogue.specs.Numbers.{head, tail, edge_tail, vertex_pool, edge_pool}
use Rattle.catalogue.specs.Catalogue.{Catalogue}
use Rattle.catalogue.specs.Live.{walk, next_vertex, first_edge, next_edge, vertices, edges_of, unmarked, is_added, is_live, live_vertices, live_edges_of, live_edge, live_edges, gather}
use Rattle.laws.proofs.Leads.{vertex_goes, edge_goes, first_goes}
use Rattle.laws.proofs.Members.{All, all_each, kept_all, map_same}
use Rattle.laws.proofs.Gathers.{gather_same, all_live}
use Rattle.laws.proofs.Walks.{walk_within, walk_same}
use Rattle.lent.proofs.Twins.{twin, Same, pick_twin}
use Rattle.memory.proofs.Agrees.{Agree}
use Rattle.lent.proofs.Reading.{vertex_read, mark_read, first_read, edge_read, target_read}
use Rattle.lent.proofs.Ranges.{Near}
use Rattle.lent.proofs.Lists.{keep_same}

abbrev pub InPool : ℕ → Type 0
InPool e = e < edge_pool

-- where the nodes of one catalogue lead
module _ (C : Catalogue) where
  pub vertices_near : All Near (vertices C)
  vertices_near =
      all_each _ Near (λ x h. h.0) (vertices C)
      (walk_within (next_vertex C) tail vertex_pool vertex_pool (next_vertex C head) (vertex_goes C.vertices.link) (vertex_goes C.vertices.link head))

  pub live_near : All Near (live_vertices C)
  live_near = kept_all Near (unmarked C) (vertices C) vertices_near

  edges_in_pool : (x : ℕ) → All InPool (edges_of C x)
  edges_in_pool x =
      all_each _ InPool (λ e h. h.0) (edges_of C x)
      (walk_within (next_edge C) edge_tail edge_pool edge_pool (first_edge C x) (edge_goes C.edges.link) (first_goes C.vertices.first x))

  live_in_pool : (x : ℕ) → All InPool (live_edges_of C x)
  live_in_pool x = kept_all InPool (is_live C) (edges_of C x) (edges_in_pool x)

module _ {C D : Catalogue} (a : Agree C D) where
  pub unmarked_twin : (x : ℕ) → Near x → Same (unmarked C x) (unmarked D x)
  unmarked_twin x h = mark_read a x h (twin _ tt) (twin _ tt) (twin _ tt)

  next_twin : (x : ℕ) → Near x → Same (next_vertex C x) (next_vertex D x)
  next_twin x h = vertex_read a x h (twin _ tt) (λ next tag b. twin _ tt)

  pub vertices_same : vertices C ≡ vertices D
  vertices_same =
      walk_same (next_vertex C) (next_vertex D) tail Near (λ x h n. (vertex_goes C.vertices.link x, (next_twin x h).same)) vertex_pool (next_vertex C head) (vertex_goes C.vertices.link head)
      ∙ ap (walk (next_vertex D) tail vertex_pool) (next_twin head (omega arith)).same

  pub live_vertices_same : live_vertices C ≡ live_vertices D
  live_vertices_same =
      keep_same (unmarked C) (unmarked D) (vertices C) (all_each Near _ (λ x h. (unmarked_twin x h).same) (vertices C) (vertices_near C))
      ∙ ap (keep (unmarked D)) vertices_same

  next_edge_twin : (e : ℕ) → Same (next_edge C e) (next_edge D e)
  next_edge_twin e = edge_read a e (twin _ tt) (λ next tag b n. twin _ tt)

  pub is_added_twin : (e : ℕ) → Same (is_added C e) (is_added D e)
  is_added_twin e = edge_read a e (twin _ tt) (λ next tag b n. twin _ tt)

  is_live_twin : (e : ℕ) → InPool e → Same (is_live C e) (is_live D e)
  is_live_twin e h = rw (is_added_twin e).same (pick_twin (is_added D e) (λ q. target_read a e h (twin _ tt) unmarked_twin) (λ q. twin _ tt))

  module _ (x : ℕ) (h : Near x) where
    pub edges_of_same : edges_of C x ≡ edges_of D x
    edges_of_same =
        walk_same (next_edge C) (next_edge D) edge_tail InPool (λ e b n. (edge_goes C.edges.link e, (next_edge_twin e).same)) edge_pool (first_edge C x) (first_goes C.vertices.first x)
        ∙ ap (walk (next_edge D) edge_tail edge_pool) first_twin.same
      where
        first_twin : Same (first_edge C x) (first_edge D x)
        first_twin = first_read a x h (twin _ tt) (λ next tag b. twin _ tt)

    pub edges_kept : (test test' : ℕ → Bool) → ((e : ℕ) → InPool e → test e ≡ test' e) → keep test (edges_of C x) ≡ keep test' (edges_of D x)
    edges_kept test test' same =
        keep_same test test' (edges_of C x) (all_each InPool _ same (edges_of C x) (edges_in_pool C x)) ∙ ap (keep test') edges_of_same

  -- what is made of each live vertex
  module _ {A : Type 0} where
    pub live_mapped : (f g : ℕ → A) → ((x : ℕ) → Near x → f x ≡ g x) → map f (live_vertices C) ≡ map g (live_vertices D)
    live_mapped f g same = map_same f g (live_vertices C) (all_each Near _ same (live_vertices C) (live_near C)) ∙ ap (map g) live_vertices_same

    pub live_gathered : (f g : ℕ → List A) → ((x : ℕ) → Near x → f x ≡ g x) → gather f (live_vertices C) ≡ gather g (live_vertices D)
    live_gathered f g same =
        gather_same f g (live_vertices C) (all_each Near _ same (live_vertices C) (live_near C)) ∙ ap (gather g) live_vertices_same

  pub live_edges_same : live_edges C ≡ live_edges D
  live_edges_same =
      live_gathered (λ x. map (live_edge x) (live_edges_of C x)) (λ x. map (live_edge x) (live_edges_of D x))
      (λ x h. ap (map (live_edge x)) (edges_kept x h (is_live C) (is_live D) (λ e b. (is_live_twin e b).same)))

  -- what is made of each live edge
  pub live_edges_mapped : {A : Type 0} (f g : ℕ → ℕ → A) → ((x e : ℕ) → Near x → InPool e → f x e ≡ g x e)
      → map (λ d. f d.source d.edge) (live_edges C) ≡ map (λ d. g d.source d.edge) (live_edges D)
  live_edges_mapped f g same =
      map_same (λ d. f d.source d.edge) (λ d. g d.source d.edge) (live_edges C)
      (all_live (λ x e. f x e ≡ g x e) (live_edges_of C) (live_vertices C) (all_each Near (λ x. All (λ e. f x e ≡ g x e) (live_edges_of C x))
      (λ x h. all_each InPool (λ e. f x e ≡ g x e) (λ e b. same x e h b) (live_edges_of C x) (live_in_pool C x)) (live_vertices C) (live_near C)))
      ∙ ap (map (λ d. g d.source d.edge)) live_edges_same
