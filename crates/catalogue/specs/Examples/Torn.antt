-- Document 01, "The steps", the paragraph on TORN, and "Sweep and listing", its first paragraph:
-- one step, one listing or one sweep on memory or a record that no run makes.
-- It answers 26, a reply, or 0 for going on. Where only what is not read is damaged, the call goes well.
use Rattle.std.specs.Prelude.{ℕ, List, [], ◌∷◌, ◌++◌, ℤ, pos}
use Rattle.catalogue.specs.Tests.{upd}
use Rattle.catalogue.specs.Numbers.{least, greatest, head, tail, edge_tail, plain, marked, transit, added, link}
use Rattle.catalogue.specs.Catalogue.{Catalogue, fresh}
use Rattle.catalogue.specs.Writes.{with_vertex_link, with_first, with_edge_link, with_edge}
use Rattle.catalogue.specs.Workers.{bare, idle_table, put}
use Rattle.catalogue.specs.Answers.{told, made_number, told_listed}
use Rattle.catalogue.specs.Calls.{step}
use Rattle.catalogue.specs.Sweep.{sweep_into}
use Rattle.catalogue.specs.Listing.{list_into}
use Rattle.catalogue.specs.Choosing.{start, after}
use Rattle.catalogue.specs.Examples.Rows.{call, stepped, between, ends, in_trial}
use Rattle.catalogue.specs.Examples.Checked.{unused, on_trial}
use Rattle.catalogue.specs.declared.workers.Place.{Place}
use Rattle.catalogue.specs.declared.workers.Place.TheVariants.{AddV, ConV, AddEFindV, AddE, RemE, ConE, Trial, TrialOpen}
use Rattle.catalogue.specs.declared.workers.Prev.TheVariants.{First, Edge}

-- A step at a place; a step of a trial, with the ends of its queue; a listing; a sweep.
-- Each with the number that it answers.
pub data Row : Type 0 where
  steps : Catalogue → Place → ℕ → Row
  tries : Catalogue → Place → ℕ → ℕ → ℕ → Row
  lists : Catalogue → ℕ → Row
  sweeps : Catalogue → ℕ → Row

abbrev pub answered : Row → ℕ
answered (steps C place n) = (told (step C (put (idle_table 1) 0 (bare place)) 0).answer).number
answered (tries C place front back n) = (told (step C (put (idle_table 1) 0 (in_trial place front back)) 0).answer).number
answered (lists C n) = (told_listed (list_into C []).answer).number
answered (sweeps C n) = made_number (sweep_into C fresh (idle_table 1)).answer

abbrev pub stated : Row → ℕ
stated (steps C place n) = n
stated (tries C place front back n) = n
stated (lists C n) = n
stated (sweeps C n) = n

-- What is damaged: the head leads to 2, which has key 5, and 2 to 3, which has key 7;
-- the edge 1 leads from 5 to 7 and is ADDED. A second one has no edge.
abbrev pub whole : Catalogue
whole = (after (start 1) (on_trial ++ stepped 0 3)).catalogue

abbrev edgeless : Catalogue
edgeless = (after (start 1) (call 0 1 (pos 5) unused 1 ++ call 0 1 (pos 7) unused 2)).catalogue

-- the vertices 2 and 3 with another link; the first edge of 2 and the edge 1 with another link
abbrev two : ℕ → ℕ → Catalogue
two next tag = with_vertex_link whole 2 (link next tag)

abbrev three : ℕ → ℕ → Catalogue
three next tag = with_vertex_link whole 3 (link next tag)

abbrev first : ℕ → ℕ → Catalogue
first next tag = with_first whole 2 (link next tag)

abbrev edge : ℕ → ℕ → Catalogue
edge next tag = with_edge_link whole 1 (link next tag)

-- another target of the edge 1, a key of the vertex 3 in the catalogue without edges, and counts
abbrev targeted : ℕ → Catalogue
targeted y = record {
  counts = whole.counts;
  vertices = whole.vertices;
  edges = record { key = whole.edges.key; target = upd whole.edges.target 1 y; link = whole.edges.link };
}

abbrev keyed : ℤ → Catalogue
keyed key = record {
  counts = edgeless.counts;
  vertices = record { key = upd edgeless.vertices.key 3 key; link = edgeless.vertices.link; first = edgeless.vertices.first };
  edges = edgeless.edges;
}

abbrev counted : ℕ → ℕ → Catalogue
counted vertices edges = record {
  counts = record { vertices = vertices; edges = edges };
  vertices = whole.vertices;
  edges = whole.edges;
}

-- The places used, at the keys 5 and 7: AddV after 5, ConV at a vertex, AddE and RemE at the first edge of 5,
-- and their trial.
abbrev adding : Place
adding = AddV (pos 6) 2 3

abbrev at_first : Place
at_first = AddE (ends 5 7 2 3) First 1

abbrev trying : Place
trying = Trial (ends 5 7 2 3) 1

-- TORN, in the order of the paragraph: a number outside its pool, of a link, of a target and of the record;
-- the tags; the counts, which an equal key comes before.
abbrev torn_memory : List Row
torn_memory =
    steps (three 256 plain) adding 26
    ∷ steps (first 2048 plain) at_first 26
    ∷ steps (targeted 256) at_first 26
    ∷ steps whole (AddE (ends 5 7 2 3) First 2048) 26
    ∷ steps whole (ConE (ends 5 7 2 3) 2048) 26
    ∷ steps (edge 0 plain) (RemE (ends 5 7 2 3) First 1) 26
    ∷ steps (two 3 transit) (ConV (pos 7) 2) 26
    ∷ steps (first 1 marked) (AddEFindV (ends 5 7 2 3).pair 2 3) 26
    ∷ steps (counted 253 1) adding 1
    ∷ steps (counted 254 1) adding 9
    ∷ steps (counted 255 1) adding 26
    ∷ steps (counted 255 1) (AddV (pos 7) 2 3) 2
    ∷ steps (counted 2 2046) (AddE (ends 5 5 2 2) First 1) 0
    ∷ steps (counted 2 2047) (AddE (ends 5 5 2 2) First 1) 9
    ∷ steps (counted 2 2048) (AddE (ends 5 5 2 2) First 1) 26
    ∷ steps (counted 2 2048) at_first 4
    ∷ []

-- TORN: a reserved key in a step that needs none; tails as p and as own edge;
-- the ends of the queue, also where u is marked; and a 257th vertex.
abbrev torn_records : List Row
torn_records =
    steps whole (ConV greatest 2) 26
    ∷ tries whole (Trial (between least (pos 7) 2 3) 1) 0 0 26
    ∷ tries whole (Trial (between (pos 5) greatest 2 3) 1) 0 0 26
    ∷ steps whole (AddV (pos 5) tail tail) 26
    ∷ steps whole (AddE (ends 5 7 2 3) (Edge edge_tail) edge_tail) 26
    ∷ tries whole (Trial (ends 5 7 2 3) edge_tail) 0 0 26
    ∷ tries (two 3 marked) trying 2 1 26
    ∷ tries whole trying 256 257 26
    ∷ tries whole trying 256 256 1
    ∷ tries whole (TrialOpen (ends 5 7 2 3) 1 2 1) 0 256 26
    ∷ []

-- Only what is read counts: a vertex of higher key has its link unread; u comes before v, and its link is read whole;
-- with a marked p, c is unread; nodes that were never handed out are read as others are;
-- what memory holds at the tail is not.
abbrev reads : List Row
reads =
    steps (three 256 plain) (ConV (pos 6) 3) 2
    ∷ steps (with_vertex_link (two 3 marked) 3 (link 256 plain)) at_first 3
    ∷ steps (two 256 marked) at_first 26
    ∷ steps (edge 0 marked) (AddE (ends 5 7 2 3) (Edge 1) 2048) 0
    ∷ steps whole (ConV (pos 5) 9) 0
    ∷ steps (with_vertex_link whole tail (link 256 marked)) (AddV (pos 9) 3 tail) 1
    ∷ []

-- An unsound catalogue: a number outside its pool; tags of a vertex, of the head, of a first-edge link and of an
-- edge;
-- keys that do not rise. The whole one is listed and swept; with its edge on trial it is listed only.
abbrev unsound : List Row
unsound =
    lists whole 0
    ∷ sweeps whole 0
    ∷ lists (edge 0 transit) 0
    ∷ sweeps (edge 0 transit) 26
    ∷ lists (with_vertex_link edgeless 3 (link 256 plain)) 26
    ∷ lists (with_vertex_link edgeless 3 (link tail transit)) 26
    ∷ lists (with_vertex_link whole head (link 2 marked)) 26
    ∷ lists (first 1 marked) 26
    ∷ lists (edge 0 plain) 26
    ∷ lists (keyed (pos 5)) 26
    ∷ lists (with_edge_link (with_edge whole 2 (pos 7) 3 edge_tail) 1 (link 2 added)) 26
    ∷ []

abbrev pub table : List Row
table = torn_memory ++ (torn_records ++ (reads ++ unsound))
