-- How a catalogue of document 01 and a worker's record show the world and the spot of the machine of `row`:
-- every word that is handed out is a whole link, and says what the world says.
-- What is not handed out may be anything.
use Prim.Native.Nat.{ℕ, ◌+◌, ◌≤◌, ◌<◌}
use mathlib.Core.Bool.{Bool, true, false}
use mathlib.Core.List.{List}
use mathlib.Core.Option.{Option, none, some}
use mathlib.Core.Path.{◌≡◌}
use lib.IntN.{ℤ}
use lib.ListN.{length, take, drop}
use Rattle.catalogue.specs.Numbers.{edge_pool, plain, some_link}
use Rattle.catalogue.specs.Catalogue.{Catalogue, vertex_key, vertex_link, first_link, edge_key, edge_link, edge_target}
use Rattle.catalogue.specs.Workers.{has, met_count, asks_pair, request_of}
use Rattle.catalogue.specs.Writes.{commit}
use Rattle.catalogue.specs.Steps.Places.{key_refused}
use Rattle.catalogue.specs.Steps.Decide.{decide, record_after, write_of}
use Rattle.std.proofs.Common.{Some}
use Rattle.catalogue.specs.declared.steps.Decision.{Decision}
use Rattle.catalogue.specs.declared.steps.Decision.TheVariants as decision
use Rattle.catalogue.specs.declared.workers.Ends.{Ends}
use Rattle.catalogue.specs.declared.workers.Pair.{Pair}
use Rattle.catalogue.specs.declared.workers.Place.{Place}
use Rattle.catalogue.specs.declared.workers.Place.TheVariants as place
use Rattle.catalogue.specs.declared.workers.Prev.{Prev}
use Rattle.catalogue.specs.declared.workers.Prev.TheVariants as prev
use Rattle.catalogue.specs.declared.workers.Reach.{Reach}
use Rattle.catalogue.specs.declared.workers.Worker.{Worker}
use Rattle.row.specs.Machine.Vertices.{Idle, AddV, RemV, ConV}
use Rattle.row.specs.Lists.Edges.{Tag, marked, transit, added, head, at}
use Rattle.laws.proofs.Members.{All}
use Rattle.laws.proofs.Distinct.{Distinct}
use Rattle.row.specs.Lists.Edges
use Rattle.row.specs.Machine.World.{World, adds, rems, cons, Opened, closed, opened, Hunt, Spot, Rest, Vert, FindU, FindV, LookE, ConE, Trial, Next}
use Rattle.promises.specs.Bounds.{total}
use Rattle.promises.proofs.Showing.Weighing.{weigh}

-- the tag of a vertex, and of an edge
abbrev pub vertex_tag_of : Bool → ℕ
vertex_tag_of true = 1
vertex_tag_of false = 0

abbrev pub edge_tag_of : Tag → ℕ
edge_tag_of marked = 1
edge_tag_of transit = 2
edge_tag_of added = 3

-- No step reads the tail's link, and the edge tail has none.
pub record Shows (C : Catalogue) (W : World) : Type 0 where
  pub vertices : W.v.used ≡ 2 + C.counts.vertices
  pub vertices_fit : C.counts.vertices ≤ 254
  pub edges : W.e.used ≡ 1 + C.counts.edges
  pub edges_fit : C.counts.edges ≤ 2047
  pub vkeys : (x : ℕ) → x < W.v.used → vertex_key C x ≡ W.v.key x
  pub vlinks : (x : ℕ) → x < W.v.used → (x ≡ 1 → ⊥) → vertex_link C x ≡ some_link (W.v.next x) (vertex_tag_of (W.v.marked x))
  pub firsts : (x : ℕ) → 2 ≤ x → x < W.v.used → first_link C x ≡ some_link (W.e.first x) plain
  pub ekeys : (e : ℕ) → e < W.e.used → edge_key C e ≡ W.e.key e
  pub elinks : (e : ℕ) → 1 ≤ e → e < W.e.used → edge_link C e ≡ some_link (W.e.next e) (edge_tag_of (W.e.tag e))
  pub targets : (e : ℕ) → 1 ≤ e → e < W.e.used → edge_target C e ≡ Some (W.e.target e)

abbrev pub prev_of : Edges.Prev → Prev
prev_of head = prev.First
prev_of (at e) = prev.Edge e

-- a vertex that is handed out
pub record Series (used x : ℕ) : Type 0 where
  pub low : 2 ≤ x
  pub high : x < used

abbrev pub Open : ℕ → Opened → Type 0
Open used closed = Unit {0}
Open used (opened x c) = Series used x

-- what a trial has met: series, of which each was taken, or is still to do, once
pub record Searched (used : ℕ) (met : ℕ → Bool) (todo : List ℕ) (taken : ℕ → Bool) : Type 0 where
  pub met_series : (x : ℕ) → met x ≡ true → Series used x
  pub taken_met : (x : ℕ) → taken x ≡ true → met x ≡ true
  pub todo_met : All (λ x. met x ≡ true) todo
  pub todo_new : All (λ x. taken x ≡ false) todo
  pub todo_once : Distinct todo

-- what a trial keeps: the set met, and the queue from its front on;
-- as many are met as were queued, and what stands before the front was taken
pub record Queued (r : Reach) (met : ℕ → Bool) (todo : List ℕ) (taken : ℕ → Bool) : Type 0 where
  pub met_words : length r.met ≡ 4
  pub queue_length : length r.queue ≡ 256
  pub ordered : r.front ≤ r.back
  pub fits : r.back ≤ 256
  pub met_same : (x : ℕ) → x < 256 → has r.met x ≡ met x
  pub counted : met_count r.met ≡ r.back
  pub queue_same : drop r.front (take r.back r.queue) ≡ todo
  pub weighed : (f : ℕ → ℕ) → total f (take r.front r.queue) ≡ weigh f taken 256

pub record Hunted (used : ℕ) (r : Reach) (h : Hunt) : Type 0 where
  pub queued : Queued r h.met h.todo h.taken
  pub searched : Searched used h.met h.todo h.taken
  pub open_series : Open used h.stand

abbrev pub trial_place : Ends → ℕ → Opened → Place
trial_place ends e closed = place.Trial ends e
trial_place ends e (opened x c) = place.TrialOpen ends e x c

-- the keys and ends of a spot; AddE's and RemE's look, and a trial, by their ends
abbrev pub keys : ℤ → ℤ → Pair
keys k l = record { k = k; l = l }

abbrev pub between : ℤ → ℤ → ℕ → ℕ → Ends
between k l u v = record { pair = keys k l; u = u; v = v }

abbrev pub at_look : Bool → Ends → Edges.Prev → ℕ → Spot
at_look b ends = LookE b ends.pair.k ends.pair.l ends.u ends.v

abbrev pub at_trial : Ends → ℕ → Hunt → Spot
at_trial ends = Trial ends.pair.k ends.pair.l ends.u ends.v

-- the record stands at the spot, of `used` vertices;
-- a look at edges tests that c is in the pool, though p may no longer lead there
abbrev pub Stands : ℕ → Worker → Spot → Type 0
Stands used w Rest = w.place ≡ place.Idle
Stands used w (Vert Idle) = ⊥
Stands used w (Vert (AddV k p c)) = w.place ≡ place.AddV k p c
Stands used w (Vert (RemV k p c)) = w.place ≡ place.RemV k p c
Stands used w (Vert (ConV k c)) = w.place ≡ place.ConV k c
Stands used w (FindU adds k l c) = w.place ≡ place.AddEFindU (keys k l) c
Stands used w (FindU rems k l c) = w.place ≡ place.RemEFindU (keys k l) c
Stands used w (FindU cons k l c) = w.place ≡ place.ConEFindU (keys k l) c
Stands used w (FindV adds k l u c) = w.place ≡ place.AddEFindV (keys k l) u c
Stands used w (FindV rems k l u c) = w.place ≡ place.RemEFindV (keys k l) u c
Stands used w (FindV cons k l u c) = w.place ≡ place.ConEFindV (keys k l) u c
Stands used w (LookE true k l u v p c) = (w.place ≡ place.AddE (between k l u v) (prev_of p) c) × (c < edge_pool)
Stands used w (LookE false k l u v p c) = (w.place ≡ place.RemE (between k l u v) (prev_of p) c) × (c < edge_pool)
Stands used w (ConE k l u v c) = w.place ≡ place.ConE (between k l u v) c
Stands used w (Trial k l u v e h) = (w.place ≡ trial_place (between k l u v) e h.stand) × Hunted used w.reach h

-- the request's keys are not reserved: that is asked before anything else in a step
abbrev pub Asked : Place → Type 0
Asked p = key_refused (request_of p) ≡ false

abbrev pub Allowed : ℕ → Pair → Type 0
Allowed code pair = key_refused (asks_pair code pair) ≡ false

pub record Shown (used : ℕ) (w : Worker) (s : Spot) : Type 0 where
  pub asked : Asked w.place
  pub stands : Stands used w s

-- what a decision replies
abbrev pub reply_of : Decision → Option ℕ
reply_of decision.Torn = none
reply_of decision.Code = none
reply_of (decision.Going next write) = none
reply_of (decision.Begins next write v) = none
reply_of (decision.Keeps next) = none
reply_of (decision.Meets next y) = none
reply_of (decision.Takes next) = none
reply_of (decision.Reply n write) = some n

-- a decision that does not refuse
abbrev pub Sure : Decision → Type 0
Sure decision.Torn = ⊥
Sure decision.Code = ⊥
Sure (decision.Going next write) = Unit {0}
Sure (decision.Begins next write v) = Unit {0}
Sure (decision.Keeps next) = Unit {0}
Sure (decision.Meets next y) = Unit {0}
Sure (decision.Takes next) = Unit {0}
Sure (decision.Reply n write) = Unit {0}

-- One step of document 01 is one move of the machine.
pub record Follows (C : Catalogue) (w : Worker) (n : Next) : Type 0 where
  pub decision : Decision
  pub decides : decide C w ≡ decision
  pub sure : Sure decision
  pub world : Shows (commit C (write_of decision)) n.world
  pub spot : Shown n.world.v.used (record_after w decision) n.spot
  pub reply : reply_of decision ≡ n.answer
