-- The three replies that stand outside the row: 9 for want of a node, 7 for a pair on trial,
-- and 6 for a pair that would close a loop.
use Rattle.std.specs.Prelude.{ℕ, suc, ◌+◌, ◌≤◌, ◌<◌, true, false, List, ◌≡◌, ℤ, length, Some, Ok}
use Rattle.catalogue.specs.Tests.{member}
use Rattle.catalogue.specs.Numbers.{most_vertices, most_edges, marked, transit, some_link}
use Rattle.catalogue.specs.Catalogue.{Catalogue, vertex_key, edge_link, edge_target}
use Rattle.catalogue.specs.Live.{edges_of, unmarked, live_vertices, live_edges_of}
use Rattle.catalogue.specs.Calls.{step}
use Rattle.catalogue.specs.Choosing.{Choice, steps, Moment}
use Rattle.catalogue.specs.Steps.Vertices.{look_at_vertex}
use Rattle.catalogue.specs.Steps.Edges.{look_at_edge}
use Rattle.catalogue.specs.Steps.Finding.{ends_of}
use Rattle.catalogue.specs.declared.answers.Answer.TheVariants.{Reply}
use Rattle.catalogue.specs.declared.steps.VertexSeen.TheVariants as vertex_seen
use Rattle.catalogue.specs.declared.steps.EdgeSeen.TheVariants as edge_seen
use Rattle.catalogue.specs.declared.steps.Landed.{Landed}
use Rattle.catalogue.specs.declared.workers.Ends.{Ends}
use Rattle.catalogue.specs.declared.workers.Pair.{Pair}
use Rattle.catalogue.specs.declared.workers.Place.{Place}
use Rattle.catalogue.specs.declared.workers.Place.TheVariants.{AddV, AddE, Trial, TrialOpen}
use Rattle.catalogue.specs.declared.workers.Prev.{Prev}
use Rattle.promises.specs.Moments.{at, moment, chosen, place_of}
use Rattle.promises.specs.Graphs.{Graph}

-- what a worker's step replies, and the catalogue after it
abbrev pub Replies : Moment → ℕ → ℕ → Type 0
Replies m w n = (step m.catalogue m.table w).answer ≡ Ok (Reply n)

abbrev pub left : Moment → ℕ → Catalogue
left m w = (step m.catalogue m.table w).catalogue

-- ---- 9

-- A node is needed, because the look settles and has found no such key, and all nodes of its pool are handed out.
pub data Lacks (C : Catalogue) : Place → Type 0 where
  a_vertex : {k : ℤ} {p c : ℕ} (next : ℕ) → look_at_vertex C k p c ≡ vertex_seen.Settles next false
      → C.counts.vertices ≡ most_vertices → Lacks C (AddV k p c)
  an_edge : {ends : Ends} {p : Prev} {c : ℕ} (at : Landed) → look_at_edge C ends p c ≡ edge_seen.Settles at → at.equal ≡ false
      → C.counts.edges ≡ most_edges → Lacks C (AddE ends p c)

-- What it is needed for: a series that is not live;
-- or a derivation that is not there, between two series that are live.
pub data Needed (g : Graph) : Place → Type 0 where
  a_series : {k : ℤ} {p c : ℕ} → g.series k ≡ false → Needed g (AddV k p c)
  a_derivation : {ends : Ends} {p : Prev} {c : ℕ} → g.series ends.pair.k ≡ true → g.series ends.pair.l ≡ true
      → g.derived ends.pair.k ends.pair.l ≡ false → Needed g (AddE ends p c)

-- ---- 7

-- A worker tries the pair of these ends: its own edge is e, from the vertex u to the vertex v.
pub data Tries (ends : Ends) (e : ℕ) (place : Place) : Type 0 where
  shut : place ≡ Trial ends e → Tries ends e place
  open_at : (x c : ℕ) → place ≡ TrialOpen ends e x c → Tries ends e place

-- Another worker than w tries the pair.
pub record Rival (workers : ℕ) (m : Moment) (w : ℕ) (pair : Pair) : Type 0 where
  pub worker : ℕ
  pub inside : worker < workers
  pub other : worker ≡ w → ⊥
  pub u : ℕ
  pub v : ℕ
  pub e : ℕ
  pub tries : Tries (ends_of pair u v) e (place_of m worker)

-- ---- edges on trial

-- The edge e is on trial in the list of x, which is a vertex that is handed out, marked or not.
-- It has the tag TRANSIT.
pub record TrialEdge (C : Catalogue) (x e : ℕ) : Type 0 where
  pub low : 2 ≤ x
  pub high : x < 2 + C.counts.vertices
  pub listed : member e (edges_of C x) ≡ true
  pub next : ℕ
  pub link : edge_link C e ≡ some_link next transit

-- Exactly one worker tries e, and it does so from x.
pub record Tried (workers : ℕ) (m : Moment) (x e : ℕ) : Type 0 where
  pub worker : ℕ
  pub inside : worker < workers
  pub pair : Pair
  pub v : ℕ
  pub tries : Tries (ends_of pair x v) e (place_of m worker)
  pub only : (w : ℕ) → w < workers → (ends : Ends) → Tries ends e (place_of m w) → w ≡ worker

-- ---- 6

-- The edge e stands from x to y: it is in the list of x, it is not MARKED and leads to y, and x and y are not marked.
pub record Stands (C : Catalogue) (x e y : ℕ) : Type 0 where
  pub listed : member e (edges_of C x) ≡ true
  pub next : ℕ
  pub tag : ℕ
  pub link : edge_link C e ≡ some_link next tag
  pub plain : tag ≡ marked → ⊥
  pub leads : edge_target C e ≡ Some y
  pub source : unmarked C x ≡ true
  pub goal : unmarked C y ≡ true

-- The edge e is live from x to y.
pub record Lives (C : Catalogue) (x e y : ℕ) : Type 0 where
  pub source : member x (live_vertices C) ≡ true
  pub listed : member e (live_edges_of C x) ≡ true
  pub leads : edge_target C e ≡ Some y

module _ (workers : ℕ) (choices : List Choice) (w : ℕ) where
  -- A trial of w: of the pair of these ends, with its own edge e from u to v.
  module _ (ends : Ends) (e : ℕ) where
    -- It lasts from the moment `first` to the moment `last`; the choice before `first` has put e in.
    pub record Lasts (first last : ℕ) : Type 0 where
      pub before : ℕ
      pub begins : first ≡ suc before
      pub started : first ≤ last
      pub p : Prev
      pub c : ℕ
      pub adds : place_of (moment workers choices before) w ≡ AddE ends p c
      pub tries : (n : ℕ) → first ≤ n → n ≤ last → Tries ends e (place_of (moment workers choices n) w)

    -- With choice n it crosses an edge from x, which is open, to y; and the edge stands at that moment.
    pub record Crosses (n x y : ℕ) : Type 0 where
      pub edge : ℕ
      pub chose : chosen workers choices n ≡ steps w
      pub opened : place_of (moment workers choices n) w ≡ TrialOpen ends e x edge
      pub stands : Stands (moment workers choices n).catalogue x edge y

    -- A chain of such crossings from v on, by choices from `first` on and before `last`.
    -- It may be v alone: so it is where u is v.
    pub data Crossed (first last : ℕ) : ℕ → Type 0 where
      here : Crossed first last ends.v
      cross : {x y : ℕ} (n : ℕ) → first ≤ n → n < last → Crosses n x y → Crossed first last x → Crossed first last y

  -- After the last choice w stands at the end of a trial.
  -- It has come from v, whose key is l, back to u, whose key is k.
  pub record Closes : Type 0 where
    pub ends : Ends
    pub e : ℕ
    pub there : place_of (at workers choices) w ≡ Trial ends e
    pub source : vertex_key (at workers choices).catalogue ends.u ≡ ends.pair.k
    pub goal : vertex_key (at workers choices).catalogue ends.v ≡ ends.pair.l
    pub first : ℕ
    pub lasts : Lasts ends e first (length choices)
    pub chain : Crossed ends e first (length choices) ends.u

-- No other edge than e is on trial, in the list of any vertex, from the moment `first` to the moment `last`.
abbrev pub Undisturbed : ℕ → List Choice → ℕ → ℕ → ℕ → Type 0
Undisturbed workers choices e first last =
    (n : ℕ) → first ≤ n → n ≤ last → (x f : ℕ) → TrialEdge (moment workers choices n).catalogue x f → f ≡ e
