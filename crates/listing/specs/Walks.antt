-- The nodes of a walk that pass a test, from any node on and with any fuel, and the lines that list them.
use Rattle.std.specs.Prelude.{ℕ, Bool, List, [], ◌∷◌, ℤ}
use Rattle.catalogue.specs.Tests.{keep}
use Rattle.catalogue.specs.Numbers.{tail, edge_tail, edge_pool}
use Rattle.catalogue.specs.Catalogue.{Catalogue, vertex_key, edge_key}
use Rattle.catalogue.specs.Live.{walk, gather, next_vertex, first_edge, next_edge, unmarked, is_added, is_live}
use Rattle.catalogue.specs.Text.{line}

unfoldable pub kept_from : (ℕ → ℕ) → ℕ → (ℕ → Bool) → ℕ → ℕ → List ℕ
kept_from next end test fuel x = keep test (walk next end fuel x)

abbrev pub unmarked_from : Catalogue → ℕ → ℕ → List ℕ
unmarked_from C = kept_from (next_vertex C) tail (unmarked C)

abbrev pub added_from : Catalogue → ℕ → ℕ → List ℕ
added_from C = kept_from (next_edge C) edge_tail (is_added C)

abbrev pub live_from : Catalogue → ℕ → ℕ → List ℕ
live_from C = kept_from (next_edge C) edge_tail (is_live C)

-- the edges that are listed of a vertex
abbrev pub live_of : Catalogue → ℕ → List ℕ
live_of C x = live_from C edge_pool (first_edge C x)

-- the edges that are counted of a vertex
abbrev pub added_of : Catalogue → ℕ → List ℕ
added_of C x = added_from C edge_pool (first_edge C x)

-- a node's line, from the keys by node number
unfoldable pub vertex_line : (ℕ → ℤ) → ℕ → List ℕ
vertex_line keys x = line (keys x ∷ [])

unfoldable pub edge_line : (ℕ → ℤ) → ℤ → ℕ → List ℕ
edge_line keys source e = line (source ∷ keys e ∷ [])

-- the lines of a walk's vertices, of one source's edges in a walk, and of all edges of a walk's vertices
abbrev pub vertex_text : Catalogue → ℕ → ℕ → List ℕ
vertex_text C fuel x = gather (vertex_line (vertex_key C)) (unmarked_from C fuel x)

abbrev pub edge_text : Catalogue → ℤ → ℕ → ℕ → List ℕ
edge_text C source fuel e = gather (edge_line (edge_key C) source) (live_from C fuel e)

abbrev pub edges_text : Catalogue → ℕ → ℕ → List ℕ
edges_text C fuel x = gather (λ y. edge_text C (vertex_key C y) edge_pool (first_edge C y)) (unmarked_from C fuel x)
