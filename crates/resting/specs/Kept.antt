-- What a sweep keeps, and how it numbers the nodes, for every sound catalogue: a sweep asks `sound sweep C`, and
-- `sound listing C` is enough.
use Rattle.std.specs.Prelude.{ℕ, suc, ◌+◌, ◌-◌, ◌≤◌, ◌<◌, true, List, ◌++◌, map, ◌≡◌, ℤ, length, get_or, ◌≤ℤ◌, Some}
use Rattle.std.specs.Int.{w32}
use Rattle.std.proofs.Common.{SFits}
use Rattle.catalogue.specs.Tests.{every, member, table_from}
use Rattle.catalogue.specs.Numbers.{head, least, most_vertices, most_edges}
use Rattle.catalogue.specs.Catalogue.{Catalogue, vertex_key, edge_key, edge_target}
use Rattle.catalogue.specs.Live.{vertices, edges_of, unmarked, is_live, live_vertices, live_edges_of, live_edges, live_keys, live_pairs, gather}
use Rattle.catalogue.specs.Soundness.{Asks, sound}
use Rattle.catalogue.specs.Sweep.{SweptEdge, source_at, swept_edge, swept_edges, held, swept}
use Rattle.catalogue.specs.Text.{lines}
use Rattle.catalogue.specs.Listing.{vertex_lines, edge_lines, added_edges}

-- so many numbers from one on
abbrev pub row : ℕ → ℕ → List ℕ
row from n = table_from (λ i. i) from n

-- a number that a key has
abbrev pub In : List ℤ → ℕ → Type 0
In keys i = (2 ≤ i) × (i < 2 + length keys)

-- where the edges of a vertex begin, how many they are, and where they stop; `share` has the edges of each number
module _ (share : ℕ → List SweptEdge) where
  abbrev pub start : ℕ → ℕ
  start i = suc (length (gather share (row 2 (i - 2))))

  abbrev pub size : ℕ → ℕ
  size i = length (share i)

  abbrev pub stop : ℕ → ℕ
  stop i = start i + size i

-- an edge whose target is the number of a key, which is the edge's
pub record Leads (keys : List ℤ) (es : List SweptEdge) (e : ℕ) : Type 0 where
  pub to : ℕ
  pub read : edge_target (held keys es) e ≡ Some to
  pub low : 2 ≤ to
  pub high : to < 2 + length keys
  pub keyed : vertex_key (held keys es) to ≡ edge_key (held keys es) e

module _ (C : Catalogue) where
  -- the live vertex of a new number, and its edges
  abbrev pub old : ℕ → ℕ
  old i = get_or (live_vertices C) (i - 2) 0

  abbrev pub share : ℕ → List SweptEdge
  share i = map (swept_edge C (old i)) (live_edges_of C (old i))

  -- the vertex in whose list an edge number stands
  pub record Stands (e : ℕ) : Type 0 where
    pub source : In (live_keys C) (source_at (swept_edges C) e)
    pub low : start share (source_at (swept_edges C) e) ≤ e
    pub high : e < stop share (source_at (swept_edges C) e)

  abbrev count : ℕ
  count = length (live_keys C)

  abbrev edge_count : ℕ
  edge_count = length (live_edges C)

  pub record Kept : Type 0 where
    -- The same live graph: the keys of its vertices, and those of its edges' sources and targets, in their order.
    pub same_keys : live_keys (swept C) ≡ live_keys C
    pub same_pairs : live_pairs (swept C) ≡ live_pairs C
    -- So a listing has the same body before and after.
    pub same_body : lines (vertex_lines (swept C) ++ edge_lines (swept C)) ≡ lines (vertex_lines C ++ edge_lines C)
    -- Sound again, for a listing and for a sweep. The new head has the least key; vertices below that, which keys of
    -- 32 bits cannot be, would not do (proofs/Below).
    pub swept_sound : least ≤ℤ vertex_key C head → (asked : Asks) → sound asked (swept C) ≡ true
    pub swept_sound_bits : SFits w32 (vertex_key C head) → (asked : Asks) → sound asked (swept C) ≡ true
    -- Nothing marked is left, and nothing on trial: every edge is ADDED and leads to a vertex without a mark.
    pub no_marks : every (unmarked (swept C)) (vertices (swept C)) ≡ true
    pub none_on_trial : every (λ x. every (is_live (swept C)) (edges_of (swept C) x)) (live_vertices (swept C)) ≡ true
    pub all_vertices : live_vertices (swept C) ≡ vertices (swept C)
    pub all_edges : (x : ℕ) → member x (live_vertices (swept C)) ≡ true → live_edges_of (swept C) x ≡ edges_of (swept C) x
    pub all_added : added_edges (swept C) ≡ gather (edges_of (swept C)) (live_vertices (swept C))
    -- The shape: how many vertices and edges are handed out, and which they are.
    pub vertices_handed : ((swept C).counts.vertices ≡ count) × (count ≤ most_vertices)
    pub edges_handed : ((swept C).counts.edges ≡ edge_count) × (edge_count ≤ most_edges)
    pub vertex_numbers : vertices (swept C) ≡ row 2 count
    pub edge_numbers : gather (edges_of (swept C)) (vertices (swept C)) ≡ row 1 edge_count
    -- A vertex number: it has the key of its live vertex, and the numbers of its edges are a row with their keys.
    pub new_key : (i : ℕ) → In (live_keys C) i → vertex_key (swept C) i ≡ vertex_key C (old i)
    pub new_edges : (i : ℕ) → In (live_keys C) i → edges_of (swept C) i ≡ row (start share i) (size share i)
    pub new_edge_keys : (i : ℕ) → In (live_keys C) i → map (edge_key (swept C)) (edges_of (swept C) i) ≡ map (edge_key C) (live_edges_of C (old i))
    -- An edge number: the vertex in whose list it stands; that it is live; and the vertex of its key, to which it
    -- leads.
    pub edge_source : (e : ℕ) → 1 ≤ e → e ≤ edge_count → Stands e
    pub edge_live : (e : ℕ) → 1 ≤ e → e ≤ edge_count → is_live (swept C) e ≡ true
    pub edge_aim : (e : ℕ) → 1 ≤ e → e ≤ edge_count → Leads (live_keys C) (swept_edges C) e

-- The statement.
abbrev pub SweepKeeps : Type 0
SweepKeeps = (asks : Asks) (C : Catalogue) → sound asks C ≡ true → Kept C
