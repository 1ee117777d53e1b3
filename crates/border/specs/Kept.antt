-- The table of workers as numbers: which place, record and table lent memory stands for, and how each is written
-- down.
use Rattle.std.specs.Prelude.{ℕ, ◌%◌, map, ℤ, pos, get_or, set, replicate, eqb}
use Rattle.catalogue.specs.Tests.{pick}
use Rattle.catalogue.specs.Workers.{idle, blank}
use Rattle.catalogue.specs.Steps.Finding.{ends_of}
use Rattle.catalogue.specs.declared.workers.Pair.{Pair}
use Rattle.catalogue.specs.declared.workers.Ends.{Ends}
use Rattle.catalogue.specs.declared.workers.Prev.{Prev}
use Rattle.catalogue.specs.declared.workers.Prev.TheVariants.{First, Edge}
use Rattle.catalogue.specs.declared.workers.Place.{Place}
use Rattle.catalogue.specs.declared.workers.Place.TheVariants.{Idle, AddV, RemV, ConV, AddEFindU, RemEFindU, ConEFindU, AddEFindV, RemEFindV, ConEFindV, AddE, RemE, ConE, Trial, TrialOpen}
use Rattle.catalogue.specs.declared.workers.Worker.{Worker}
use Rattle.catalogue.specs.declared.workers.Table.{Table}
use Rattle.border.specs.declared.kept.Spot.{Spot}
use Rattle.border.specs.declared.kept.Record.{Record}
use Rattle.border.specs.declared.kept.Kept.{Kept}

-- Reading. Any numbers are some place: a kind above 14 is idle.
unfoldable pub prev_in : ℕ → ℕ → Prev
prev_in x e = pick (eqb x 0) First (Edge e)

unfoldable pub edge_place_in : Spot → Place
edge_place_in s =
    let ends = ends_of s.pair s.u s.v in
    pick (eqb s.kind 10) (AddE ends (prev_in s.x s.e) s.c)
    (pick (eqb s.kind 11) (RemE ends (prev_in s.x s.e) s.c)
    (pick (eqb s.kind 12) (ConE ends s.c)
    (pick (eqb s.kind 13) (Trial ends s.e)
    (pick (eqb s.kind 14) (TrialOpen ends s.e s.x s.c) Idle))))

unfoldable pub finding_place_in : Spot → Place
finding_place_in s =
    pick (eqb s.kind 4) (AddEFindU s.pair s.v)
    (pick (eqb s.kind 5) (RemEFindU s.pair s.v)
    (pick (eqb s.kind 6) (ConEFindU s.pair s.v)
    (pick (eqb s.kind 7) (AddEFindV s.pair s.u s.v)
    (pick (eqb s.kind 8) (RemEFindV s.pair s.u s.v)
    (pick (eqb s.kind 9) (ConEFindV s.pair s.u s.v) (edge_place_in s))))))

unfoldable pub place_in : Spot → Place
place_in s =
    pick (eqb s.kind 1) (AddV s.pair.k s.u s.v)
    (pick (eqb s.kind 2) (RemV s.pair.k s.u s.v)
    (pick (eqb s.kind 3) (ConV s.pair.k s.v) (finding_place_in s)))

abbrev pub worker_in : Record → Worker
worker_in r = record { place = place_in r.spot; reach = r.reach }

abbrev pub table_in : Kept → Table
table_in t = record { count = t.count; workers = map worker_in t.records }

-- Writing down: the kind, the keys with u and v, x, e and c.
unfoldable pub at_kind : ℕ → Ends → ℕ → ℕ → ℕ → Spot
at_kind kind ends x e c = record { pair = ends.pair; e = e; c = c; kind = kind; u = ends.u; v = ends.v; x = x }

-- a place that has no edge
unfoldable pub vertex_spot : ℕ → Pair → ℕ → ℕ → Spot
vertex_spot kind pair u v = at_kind kind (ends_of pair u v) 0 0 0

-- the keys of a vertex call, which has no second one
abbrev pub alone : ℤ → Pair
alone k = record { k = k; l = pos 0 }

-- an edge place, by what stands before its edge
unfoldable pub edge_spot : ℕ → Ends → Prev → ℕ → Spot
edge_spot kind ends First c = at_kind kind ends 0 0 c
edge_spot kind ends (Edge e) c = at_kind kind ends 1 e c

abbrev pub spot_of : Place → Spot
spot_of Idle = vertex_spot 0 (alone (pos 0)) 0 0
spot_of (AddV k p c) = vertex_spot 1 (alone k) p c
spot_of (RemV k p c) = vertex_spot 2 (alone k) p c
spot_of (ConV k c) = vertex_spot 3 (alone k) 0 c
spot_of (AddEFindU pair c) = vertex_spot 4 pair 0 c
spot_of (RemEFindU pair c) = vertex_spot 5 pair 0 c
spot_of (ConEFindU pair c) = vertex_spot 6 pair 0 c
spot_of (AddEFindV pair u c) = vertex_spot 7 pair u c
spot_of (RemEFindV pair u c) = vertex_spot 8 pair u c
spot_of (ConEFindV pair u c) = vertex_spot 9 pair u c
spot_of (AddE ends p c) = edge_spot 10 ends p c
spot_of (RemE ends p c) = edge_spot 11 ends p c
spot_of (ConE ends c) = at_kind 12 ends 0 0 c
spot_of (Trial ends e) = at_kind 13 ends 0 e 0
spot_of (TrialOpen ends e x c) = at_kind 14 ends x e c

abbrev pub record_of : Worker → Record
record_of w = record { spot = spot_of w.place; reach = w.reach }

-- the table with another record at a number
abbrev pub put_record : Kept → ℕ → Record → Kept
put_record t n r = record { count = t.count; records = set t.records n r }

-- the record at a number; `empty` stands for one that the table does not have
abbrev pub empty : Record
empty = record { spot = record { pair = alone (pos 0); e = 0; c = 0; kind = 0; u = 0; v = 0; x = 0 }; reach = blank.reach }

abbrev pub record_at : Kept → ℕ → Record
record_at t n = get_or t.records n empty

-- The record that a call reads and stores back: that of the worker, or any, if there is no such worker.
abbrev pub slot : ℕ → ℕ
slot worker = worker % 8

-- A table of idle workers.
abbrev pub idle_kept : ℕ → Kept
idle_kept count = record { count = count; records = replicate 8 (record_of idle) }

-- how many bytes a table takes
abbrev pub table_size : ℕ
table_size = 2504
