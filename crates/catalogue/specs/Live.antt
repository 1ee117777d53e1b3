-- Document 01, "Numbers", paragraph 4: the live graph, read off the lists.
use Rattle.std.specs.Prelude.{ℕ, zero, suc, Bool, true, false, List, [], ◌∷◌, ◌++◌, map, ℤ, eqb}
use Rattle.catalogue.specs.Tests.{pick, keep}
use Rattle.catalogue.specs.Numbers.{head, tail, edge_tail, vertex_pool, edge_pool, added}
use Rattle.catalogue.specs.Catalogue.{Catalogue, vertex_key, vertex_link, first_link, edge_key, edge_link, edge_target, at_link, at_target, at_mark}

-- The nodes of a list from x on to its end, by a next for each node; no list has more nodes than its pool.
unfoldable pub walk : (ℕ → ℕ) → ℕ → ℕ → ℕ → List ℕ
walk next end zero x = []
walk next end (suc n) x = elim (eqb x end) [ true ↦ [] | false ↦ x ∷ walk next end n (next x) ]

abbrev pub next_vertex : Catalogue → ℕ → ℕ
next_vertex C x = at_link (vertex_link C x) tail (λ next tag. next)

abbrev pub first_edge : Catalogue → ℕ → ℕ
first_edge C x = at_link (first_link C x) edge_tail (λ next tag. next)

abbrev pub next_edge : Catalogue → ℕ → ℕ
next_edge C e = at_link (edge_link C e) edge_tail (λ next tag. next)

-- the vertices that the head leads to, other than the tail, marked ones too
abbrev pub vertices : Catalogue → List ℕ
vertices C = walk (next_vertex C) tail vertex_pool (next_vertex C head)

-- the edge nodes in the list of a vertex, whatever their tags
abbrev pub edges_of : Catalogue → ℕ → List ℕ
edges_of C x = walk (next_edge C) edge_tail edge_pool (first_edge C x)

abbrev pub unmarked : Catalogue → ℕ → Bool
unmarked C x = at_mark (vertex_link C x) false false true

abbrev pub is_added : Catalogue → ℕ → Bool
is_added C e = at_link (edge_link C e) false (λ next tag. eqb tag added)

-- an ADDED edge whose target is not marked
abbrev pub is_live : Catalogue → ℕ → Bool
is_live C e = pick (is_added C e) (at_target (edge_target C e) false (unmarked C)) false

abbrev pub live_vertices : Catalogue → List ℕ
live_vertices C = keep (unmarked C) (vertices C)

abbrev pub live_edges_of : Catalogue → ℕ → List ℕ
live_edges_of C x = keep (is_live C) (edges_of C x)

-- what a function gives for each member, one after the other
unfoldable pub gather : {A : Type 0} → (ℕ → List A) → List ℕ → List A
gather f [] = []
gather f (x ∷ xs) = f x ++ gather f xs

-- A live edge: the vertex in whose list it stands, and its node.
pub record LiveEdge : Type 0 where
  pub source : ℕ
  pub edge : ℕ

abbrev pub live_edge : ℕ → ℕ → LiveEdge
live_edge x e = record { source = x; edge = e }

-- All live edges, by source and then by target key. Listing, sweep, soundness and the promises read this list.
abbrev pub live_edges : Catalogue → List LiveEdge
live_edges C = gather (λ x. map (live_edge x) (live_edges_of C x)) (live_vertices C)

-- The live graph by keys: its vertices, and its edges as pairs of source and target.
abbrev pub live_keys : Catalogue → List ℤ
live_keys C = map (vertex_key C) (live_vertices C)

abbrev pub live_pairs : Catalogue → List (ℤ × ℤ)
live_pairs C = map (λ d. (vertex_key C d.source, edge_key C d.edge)) (live_edges C)
