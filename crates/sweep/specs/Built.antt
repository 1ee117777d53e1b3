-- The second memory after the walks of a sweep, by the nodes that they keep.
-- Each one becomes a new node after the one before.
use Rattle.std.specs.Prelude.{ℕ, ◌+◌, Bool, List, [], ◌∷◌, ℤ, length, get_or, set, eqb}
use Rattle.catalogue.specs.Tests.{pick}
use Rattle.catalogue.specs.Numbers.{head, tail, edge_tail, added}
use Rattle.catalogue.specs.Catalogue.{Catalogue, edge_key, edge_target, at_target}
use Rattle.catalogue.specs.Writes.{commit}
use Rattle.catalogue.specs.Lent.{Memory, view, lay}
use Rattle.catalogue.specs.declared.writes.Write.{Write}
use Rattle.catalogue.specs.declared.writes.Write.TheVariants.{NewVertex, EdgeLink, NewFirst, NewEdge}
use Rattle.listing.specs.Walks.{live_of}
use Rattle.sweep.specs.declared.copies.Tip.{Tip}

-- memory after a write
abbrev pub committed : Memory → Write → Memory
committed m w = lay (commit (view m) w)

-- the last of n new vertices, or the head
unfoldable pub last_vertex : ℕ → ℕ
last_vertex n = pick (eqb n 0) head (1 + n)

-- a new vertex after n others
abbrev pub vertex_write : ℕ → ℤ → Write
vertex_write n key = NewVertex (2 + n) key tail (last_vertex n)

unfoldable pub with_vertices : (ℕ → ℤ) → List ℕ → ℕ → Memory → Memory
with_vertices keys [] n m = m
with_vertices keys (x ∷ l) n m = with_vertices keys l (n + 1) (committed m (vertex_write n (keys x)))

-- the new numbers of vertices after n others, by their old numbers
unfoldable pub numbered : List ℕ → ℕ → List ℕ → List ℕ
numbered [] n numbers = numbers
numbered (x ∷ l) n numbers = numbered l (n + 1) (set numbers x (2 + n))

abbrev pub number_of : List ℕ → ℕ → ℕ
number_of numbers x = get_or numbers x 0

-- A new edge where there are n others: after p in its source's list, or first in it where p is the tail.
unfoldable pub edge_write : ℕ → ℤ → ℕ → ℕ → ℕ → Write
edge_write n key target source p =
    pick (eqb p 0) (NewFirst (1 + n) key target edge_tail source) (NewEdge (1 + n) key target edge_tail p added)

abbrev pub with_edge : ℕ → ℤ → ℕ → ℕ → ℕ → Memory → Memory
with_edge n key target source p m = committed (committed m (edge_write n key target source p)) (EdgeLink (1 + n) edge_tail added)

-- the new number of an edge's target
abbrev pub target_number : Catalogue → List ℕ → ℕ → ℕ
target_number C numbers e = at_target (edge_target C e) 0 (number_of numbers)

-- one edge at the tip of its list, where it is made at all, and the tip after it
unfoldable pub copied : Bool → Tip → ℤ → ℕ → Memory → Memory
copied made tip key target m = pick made (with_edge tip.n key target tip.source tip.p m) m

unfoldable pub tip_after : Bool → Tip → Tip
tip_after made tip = pick made (record { source = tip.source; n = tip.n + 1; p = tip.n + 1 }) tip

-- the edges of one source
unfoldable pub with_edges : (ℕ → ℤ) → (ℕ → ℕ) → ℕ → List ℕ → ℕ → ℕ → Memory → Memory
with_edges keys targets source [] n p m = m
with_edges keys targets source (e ∷ l) n p m =
    with_edges keys targets source l (n + 1) (n + 1) (with_edge n (keys e) (targets e) source p m)

-- the edges of all sources
unfoldable pub with_lists : (ℕ → ℤ) → (ℕ → ℕ) → (ℕ → ℕ) → (ℕ → List ℕ) → List ℕ → ℕ → Memory → Memory
with_lists keys targets number edges [] n m = m
with_lists keys targets number edges (x ∷ l) n m =
    with_lists keys targets number edges l (n + length (edges x)) (with_edges keys targets (number x) (edges x) n edge_tail m)

-- the same by a catalogue, its numbers, and a walk
abbrev pub edges_built : Catalogue → List ℕ → ℕ → List ℕ → ℕ → ℕ → Memory → Memory
edges_built C numbers = with_edges (edge_key C) (target_number C numbers)

abbrev pub lists_built : Catalogue → List ℕ → List ℕ → ℕ → Memory → Memory
lists_built C numbers = with_lists (edge_key C) (target_number C numbers) (number_of numbers) (live_of C)
