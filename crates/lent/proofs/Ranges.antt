-- Places, records and tables whose vertex numbers lie in the pool. Edge numbers are tested before they are used.
use Prim.Native.Nat.{ℕ, ◌<◌}
use lib.Dec.{eqb}
use lib.IntN.{ℤ}
use native.Mathlib.Omega.{arith}
use Rattle.catalogue.specs.Numbers.{vertex_pool}
use Rattle.catalogue.specs.Steps.Places.{vertex_place, find_u_place, find_v_place, edge_place, edges_place, first_place}
use Rattle.catalogue.specs.declared.workers.Pair.{Pair}
use Rattle.catalogue.specs.declared.workers.Ends.{Ends}
use Rattle.catalogue.specs.declared.workers.Request.{Request}
use Rattle.catalogue.specs.declared.workers.Prev.{Prev}
use Rattle.catalogue.specs.declared.workers.Prev.TheVariants.{First}
use Rattle.catalogue.specs.declared.workers.Place.{Place}
use Rattle.catalogue.specs.declared.workers.Place.TheVariants.{Idle, AddV, RemV, ConV, AddEFindU, RemEFindU, ConEFindU, AddEFindV, RemEFindV, ConEFindV, AddE, RemE, ConE, Trial, TrialOpen}
use Rattle.catalogue.specs.declared.workers.Worker.{Worker}
use Rattle.catalogue.specs.declared.workers.Table.{Table}
use Rattle.catalogue.specs.declared.steps.Decision.{Decision}
use Rattle.catalogue.specs.declared.steps.Decision.TheVariants as decision
use Rattle.laws.proofs.Picks.{pick_both}
use Rattle.laws.proofs.Members.{All}

abbrev pub Near : ℕ → Type 0
Near n = n < vertex_pool

abbrev pub EndsNear : Ends → Type 0
EndsNear ends = Near ends.u × Near ends.v

abbrev pub PlaceNear : Place → Type 0
PlaceNear Idle = Unit {0}
PlaceNear (AddV k p c) = Near p × Near c
PlaceNear (RemV k p c) = Near p × Near c
PlaceNear (ConV k c) = Near c
PlaceNear (AddEFindU pair c) = Near c
PlaceNear (RemEFindU pair c) = Near c
PlaceNear (ConEFindU pair c) = Near c
PlaceNear (AddEFindV pair u c) = Near u × Near c
PlaceNear (RemEFindV pair u c) = Near u × Near c
PlaceNear (ConEFindV pair u c) = Near u × Near c
PlaceNear (AddE ends p c) = EndsNear ends
PlaceNear (RemE ends p c) = EndsNear ends
PlaceNear (ConE ends c) = EndsNear ends
PlaceNear (Trial ends e) = EndsNear ends
PlaceNear (TrialOpen ends e x c) = EndsNear ends × Near x

pub record InRange (w : Worker) : Type 0 where
  pub place : PlaceNear w.place
  pub queue : All Near w.reach.queue

abbrev pub TableInRange : Table → Type 0
TableInRange t = All InRange t.workers

-- a decision whose record is in range
abbrev pub LeadsNear : Decision → Type 0
LeadsNear decision.Torn = Unit {0}
LeadsNear decision.Code = Unit {0}
LeadsNear (decision.Going next write) = PlaceNear next
LeadsNear (decision.Begins next write v) = PlaceNear next × Near v
LeadsNear (decision.Keeps next) = PlaceNear next
LeadsNear (decision.Meets next y) = PlaceNear next × Near y
LeadsNear (decision.Takes next) = PlaceNear next
LeadsNear (decision.Reply number write) = Unit {0}

-- the places that a request of a given code goes on to
module _ (code : ℕ) where
  pub vertex_place_near : (k : ℤ) (p c : ℕ) → Near p → Near c → PlaceNear (vertex_place code k p c)
  unfolding vertex_place
  vertex_place_near k p c h g = pick_both PlaceNear (eqb code 1) _ _ (λ e. (h, g)) (λ e. (h, g))

  pub find_u_near : (pair : Pair) (c : ℕ) → Near c → PlaceNear (find_u_place code pair c)
  unfolding find_u_place
  find_u_near pair c h = pick_both PlaceNear (eqb code 4) _ _ (λ e. h) (λ e. pick_both PlaceNear (eqb code 5) _ _ (λ f. h) (λ f. h))

  pub find_v_near : (pair : Pair) (u c : ℕ) → Near u → Near c → PlaceNear (find_v_place code pair u c)
  unfolding find_v_place
  find_v_near pair u c h g =
      pick_both PlaceNear (eqb code 4) _ _ (λ e. (h, g)) (λ e. pick_both PlaceNear (eqb code 5) _ _ (λ f. (h, g)) (λ f. (h, g)))

  module _ (ends : Ends) (h : EndsNear ends) where
    pub edge_place_near : (p : Prev) (c : ℕ) → PlaceNear (edge_place code ends p c)
    unfolding edge_place
    edge_place_near p c = pick_both PlaceNear (eqb code 4) _ _ (λ e. h) (λ e. h)

    pub edges_place_near : (c : ℕ) → PlaceNear (edges_place code ends c)
    unfolding edges_place
    edges_place_near c = pick_both PlaceNear (eqb code 6) _ _ (λ e. h) (λ e. edge_place_near First c)

-- the first place of a request
pub first_near : (q : Request) (c : ℕ) → Near c → PlaceNear (first_place q c)
unfolding first_place
first_near q c h =
    pick_both PlaceNear (eqb q.code 1) _ _ (λ e. (omega arith, h))
    (λ e. pick_both PlaceNear (eqb q.code 2) _ _ (λ e. (omega arith, h))
    (λ e. pick_both PlaceNear (eqb q.code 3) _ _ (λ e. h)
    (λ e. pick_both PlaceNear (eqb q.code 4) _ _ (λ e. h)
    (λ e. pick_both PlaceNear (eqb q.code 5) _ _ (λ e. h) (λ e. pick_both PlaceNear (eqb q.code 6) _ _ (λ e. h) (λ e. tt))))))
