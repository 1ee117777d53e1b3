-- One step of finding u, or v, for AddE, RemE or ConE is one move of the machine of `row`.
use Prim.Native.Nat.{ℕ, ◌<◌}
use mathlib.Core.Bool.{true, false}
use mathlib.Core.Path.{◌≡◌, refl, ◌∙◌}
use Rattle.catalogue.specs.Catalogue.{Catalogue}
use Rattle.catalogue.specs.Steps.Places.{find_u_place, find_v_place, edge_place, edges_place}
use Rattle.catalogue.specs.Steps.Finding.{look_for, not_found, found_u, decide_find_u, step_find_u, found_v, decide_find_v, step_find_v}
use Rattle.catalogue.specs.Steps.Decide.{decide}
use Rattle.catalogue.specs.declared.steps.Decision.{Decision}
use Rattle.catalogue.specs.declared.steps.Decision.TheVariants as decision
use Rattle.catalogue.specs.declared.steps.VertexFound.{VertexFound}
use Rattle.catalogue.specs.declared.steps.VertexFound.TheVariants as finds
use Rattle.catalogue.specs.declared.workers.Place.TheVariants as place
use Rattle.catalogue.specs.declared.workers.Prev.TheVariants as prev
use Rattle.catalogue.specs.declared.workers.Worker.{Worker}
use Rattle.catalogue.specs.declared.writes.Write.TheVariants.{Nothing}
use Rattle.row.specs.Lists.Edges.{head}
use Rattle.row.proofs.Graphs.Good.{WGood}
use Rattle.row.proofs.Graphs.Graph.{IsV}
use Rattle.row.specs.Machine.World.{World, Kind, adds, rems, cons, goes, says, FindU, FindV, LookE, ConE}
use Rattle.row.specs.Machine.Moves.{VSeen, lower, found, missing, vlook, lost, look_at, find_u, find_v}
use Rattle.promises.proofs.Showing.Shows.{Shows, Shown, Follows, Allowed, keys, between}
use Rattle.promises.proofs.Showing.EdgeLinks.{first_fits}
use Rattle.promises.proofs.Showing.Pools.{series_of}
use Rattle.promises.proofs.Steps.Deciding.{FollowsAt, decides, walks_on, says_so}
use Rattle.promises.proofs.Steps.VertexLooks.{head_reads, Sought, seeks_on, seeks_found, seeks_missing, sought}
use lib.IntN.{ℤ}

-- the number of a request on edges
abbrev code_of : Kind → ℕ
code_of adds = 4
code_of rems = 5
code_of cons = 6

module _ (C : Catalogue) (W : World) (s : Shows C W) (g : WGood W) (w : Worker) (k l : ℤ) where
  abbrev Decides : Decision → Type 0
  Decides d = decide C w ≡ d

  not_there : (q : Kind) → Decides (decision.Reply (not_found (code_of q)) Nothing) → Follows C w (says W (lost q))
  unfolding not_found
  not_there adds d = says_so C W s w 3 d
  not_there rems d = says_so C W s w 3 d
  not_there cons d = says_so C W s w 8 d

  -- ---- u

  stands_u : (q : Kind) (c : ℕ) → Shown W.v.used w (FindU q k l c) → Allowed (code_of q) (keys k l) × Decides (step_find_u C (code_of q) (keys k l) c)
  stands_u adds c n = decides C w (place.AddEFindU (keys k l) c) n.stands n.asked
  stands_u rems c n = decides C w (place.RemEFindU (keys k l) c) n.stands n.asked
  stands_u cons c n = decides C w (place.ConEFindU (keys k l) c) n.stands n.asked

  to_u : (q : Kind) (c : ℕ) → Allowed (code_of q) (keys k l) → Decides (decision.Going (find_u_place (code_of q) (keys k l) c) Nothing) → Follows C w (goes W (FindU q k l c))
  unfolding find_u_place
  to_u adds c a d = walks_on C W s w (place.AddEFindU (keys k l) c) (FindU adds k l c) d a refl
  to_u rems c a d = walks_on C W s w (place.RemEFindU (keys k l) c) (FindU rems k l c) d a refl
  to_u cons c a d = walks_on C W s w (place.ConEFindU (keys k l) c) (FindU cons k l c) d a refl

  to_v : (q : Kind) (u c : ℕ) → Allowed (code_of q) (keys k l) → Decides (decision.Going (find_v_place (code_of q) (keys k l) u c) Nothing) → Follows C w (goes W (FindV q k l u c))
  unfolding find_v_place
  to_v adds u c a d = walks_on C W s w (place.AddEFindV (keys k l) u c) (FindV adds k l u c) d a refl
  to_v rems u c a d = walks_on C W s w (place.RemEFindV (keys k l) u c) (FindV rems k l u c) d a refl
  to_v cons u c a d = walks_on C W s w (place.ConEFindV (keys k l) u c) (FindV cons k l u c) d a refl

  finds_u : (q : Kind) (c : ℕ) (z : VertexFound) (t : VSeen) → Sought W.v k c z t → Allowed (code_of q) (keys k l) → Decides (decide_find_u C (code_of q) (keys k l) c z)
      → Follows C w (find_u W q k l c t)
  unfolding found_u
  finds_u q c (finds.Onward n) lower seeks_on a d = to_u q (W.v.next c) a d
  finds_u q c finds.Found found seeks_found a d = to_v q c (W.v.next 0) a (d ∙ rw (head_reads C W s g.good))
  finds_u q c finds.Missing missing seeks_missing a d = not_there q d
  finds_u q c z t n a d = elim n [ ]

  -- ---- v

  stands_v : (q : Kind) (u c : ℕ) → Shown W.v.used w (FindV q k l u c) → Allowed (code_of q) (keys k l) × Decides (step_find_v C (code_of q) (keys k l) u c)
  stands_v adds u c n = decides C w (place.AddEFindV (keys k l) u c) n.stands n.asked
  stands_v rems u c n = decides C w (place.RemEFindV (keys k l) u c) n.stands n.asked
  stands_v cons u c n = decides C w (place.ConEFindV (keys k l) u c) n.stands n.asked

  -- u's first-edge link is whole, so the edge that it leads to lies in the pool
  to_edges : (q : Kind) (u v : ℕ) → W.e.first u < 2048 → Allowed (code_of q) (keys k l) → Decides (decision.Going (edges_place (code_of q) (between k l u v) (W.e.first u)) Nothing)
      → Follows C w (goes W (look_at W q k l u v))
  unfolding edges_place edge_place
  to_edges adds u v h a d = walks_on C W s w (place.AddE (between k l u v) prev.First (W.e.first u)) (LookE true k l u v head (W.e.first u)) d a (refl, h)
  to_edges rems u v h a d = walks_on C W s w (place.RemE (between k l u v) prev.First (W.e.first u)) (LookE false k l u v head (W.e.first u)) d a (refl, h)
  to_edges cons u v h a d = walks_on C W s w (place.ConE (between k l u v) (W.e.first u)) (ConE k l u v (W.e.first u)) d a refl

  finds_v : (q : Kind) (u c : ℕ) (z : VertexFound) (t : VSeen) → IsV W.v k u → Sought W.v l c z t → Allowed (code_of q) (keys k l)
      → Decides (decide_find_v C (code_of q) (keys k l) u c z) → Follows C w (find_v W q k l u c t)
  unfolding found_v
  finds_v q u c (finds.Onward n) lower i seeks_on a d = to_v q u (W.v.next c) a d
  finds_v q u c finds.Found found i seeks_found a d = to_edges q u c (first_fits C W s u (series_of i)) a (d ∙ rw (s.firsts u i.low i.high))
  finds_v q u c finds.Missing missing i seeks_missing a d = not_there q d
  finds_v q u c z t i n a d = elim n [ ]

pub find_u_follows : (q : Kind) (k l : ℤ) (c : ℕ) → FollowsAt (FindU q k l c)
unfolding step_find_u
find_u_follows q k l c C W s g w o n =
    let d = stands_u C W s g w k l q c n in
    finds_u C W s g w k l q c (look_for C k c) (vlook W.v k c) (sought C W s g.good k o.0 c o.2) d.0 d.1

pub find_v_follows : (q : Kind) (k l : ℤ) (u c : ℕ) → FollowsAt (FindV q k l u c)
unfolding step_find_v
find_v_follows q k l u c C W s g w o n =
    let d = stands_v C W s g w k l q u c n in
    finds_v C W s g w k l q u c (look_for C l c) (vlook W.v l c) o.1 (sought C W s g.good l o.0 c o.2) d.0 d.1
