-- Document 01, "Sweep and listing", first paragraph: a sound catalogue.
use Rattle.std.specs.Prelude.{ℕ, Bool, true, false, ◌∷◌, length, eqb, leb}
use Rattle.std.specs.Int.Signed.{lt_z}
use Rattle.catalogue.specs.Tests.{pick, eq_z, every, member}
use Rattle.catalogue.specs.Numbers.{head, transit, most_edges}
use Rattle.catalogue.specs.Catalogue.{Catalogue, vertex_key, vertex_link, first_link, edge_key, edge_link, edge_target, at_link, at_target, at_mark}
use Rattle.catalogue.specs.Live.{vertices, edges_of, unmarked, live_vertices, live_edges}

-- Which of the two calls asks: a sweep has no use for an edge on trial, a listing passes it.
pub data Asks : Type 0 where
  listing sweep : Asks

abbrev pub tag_fits : Asks → ℕ → Bool
tag_fits listing tag = true
tag_fits sweep tag = pick (eqb tag transit) false true

-- The head or a vertex on the walk: a whole link, and a next of greater key. A walk that rises ends at the tail.
abbrev pub vertex_sound : Catalogue → ℕ → Bool
vertex_sound C x = at_link (vertex_link C x) false (λ next tag. lt_z (vertex_key C x) (vertex_key C next))

-- The target of an edge has the edge's key, and has its mark or stands on the vertex walk.
abbrev pub target_sound : Catalogue → ℕ → ℕ → Bool
target_sound C e y =
    pick (eq_z (vertex_key C y) (edge_key C e)) (at_mark (vertex_link C y) false true (member y (vertices C))) false

-- An edge node in the list of a live vertex: a whole link, its tag, a next of greater key, and its target.
abbrev pub edge_sound : Asks → Catalogue → ℕ → Bool
edge_sound asks C e =
    at_link (edge_link C e) false (λ next tag.
    pick (tag_fits asks tag)
    (pick (lt_z (edge_key C e) (edge_key C next)) (at_target (edge_target C e) false (target_sound C e)) false)
    false)

-- A live vertex: a whole first-edge link, and sound edges.
abbrev pub edges_sound : Asks → Catalogue → ℕ → Bool
edges_sound asks C x = at_link (first_link C x) false (λ next tag. every (edge_sound asks C) (edges_of C x))

-- All of it, with the head unmarked and at most 2,047 live edges, each counted in the list where it stands.
unfoldable pub sound : Asks → Catalogue → Bool
sound asks C =
    pick (unmarked C head)
    (pick (every (vertex_sound C) (head ∷ vertices C))
    (pick (every (edges_sound asks C) (live_vertices C)) (leb (length (live_edges C)) most_edges) false)
    false)
    false
