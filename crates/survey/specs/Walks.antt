-- What the walks of the survey find from a node on, with so much of the walk left; and which call asks, by a flag.
use Rattle.std.specs.Prelude.{ℕ, ◌+◌, ◌<◌, Bool, true, false, List, [], ◌∷◌, ◌≡◌, ℤ, length, replicate, leb, Option, Some, None, Result, Ok, Err}
use Rattle.catalogue.specs.Tests.{pick, keep, every, member}
use Rattle.catalogue.specs.Numbers.{vertex_pool, tail, edge_tail, most_edges}
use Rattle.catalogue.specs.Catalogue.{Catalogue}
use Rattle.catalogue.specs.Lent.{catalogue_in}
use Rattle.catalogue.specs.Live.{walk, next_vertex, next_edge, vertices, unmarked, is_live, live_edges_of, gather}
use Rattle.catalogue.specs.Workers.{has, with_met}
use Rattle.catalogue.specs.Soundness.{Asks, listing, sweep, vertex_sound, edge_sound, edges_sound}

-- the flag that a call hands on
abbrev pub asks_of : Bool → Asks
asks_of true = sweep
asks_of false = listing

-- the catalogue of which no key is read
abbrev pub linked : List ℕ → Catalogue
linked words = catalogue_in [] words

-- A set that has exactly the vertices on the walk of a catalogue.
pub record Ready (keys : List ℤ) (words met : List ℕ) : Type 0 where
  pub on : (y : ℕ) → y < vertex_pool → has met y ≡ member y (vertices (catalogue_in keys words))

-- a set with one number more, unless it has it
unfoldable pub also_met : List ℕ → ℕ → List ℕ
also_met met n = pick (has met n) met (with_met met n)

-- the members of a list before the first that does not pass, as a set
unfoldable pub met_of : (ℕ → Bool) → List ℕ → List ℕ
met_of test [] = replicate 4 0
met_of test (x ∷ xs) = pick (test x) (also_met (met_of test xs) x) (replicate 4 0)

-- What a walk finds of a list of vertices: whether all pass, and which were met up to the first that does not.
abbrev pub found : (ℕ → Bool) → List ℕ → Result (List ℕ) (List ℕ)
found test l = pick (every test l) (Ok (met_of test l)) (Err (met_of test l))

-- the vertex walk from x on, where it has so many nodes left
unfoldable pub walk_from : Catalogue → ℕ → ℕ → Result (List ℕ) (List ℕ)
walk_from C left x = found (vertex_sound C) (walk (next_vertex C) tail left x)

-- What a walk finds of a list of edges: how many more are live, where all pass.
abbrev pub counted : (ℕ → Bool) → (ℕ → Bool) → ℕ → List ℕ → Option ℕ
counted test live n l = pick (every test l) (Some (n + length (keep live l))) None

-- the walk of an edge list from e on, where it has so many nodes left and has counted n live edges
unfoldable pub edges_from : Asks → Catalogue → ℕ → ℕ → ℕ → Option ℕ
edges_from asks C n left e = counted (edge_sound asks C) (is_live C) n (walk (next_edge C) edge_tail left e)

-- the whole list of a vertex
unfoldable pub edges_at : Asks → Catalogue → ℕ → Option ℕ
edges_at asks C x = pick (edges_sound asks C x) (Some (length (live_edges_of C x))) None

-- What a walk finds of vertices by their lists: whether all pass,
-- and n and what they hold together are within the limit.
abbrev pub within : (ℕ → Bool) → (ℕ → List ℕ) → ℕ → List ℕ → Bool
within test holds n l = pick (every test l) (leb (n + length (gather holds l)) most_edges) false

-- the walk over the live vertices from x on, where it has so many nodes left and has counted n live edges
unfoldable pub lists_from : Asks → Catalogue → ℕ → ℕ → ℕ → Bool
lists_from asks C n left x =
    within (edges_sound asks C) (live_edges_of C) n (keep (unmarked C) (walk (next_vertex C) tail left x))
