-- A step decides the same in catalogues that agree, for a record in range, and keeps the record in range.
use Prim.Native.Nat.{ℕ}
use native.Mathlib.Omega.{arith}
use lib.ListN.{replicate}
use Rattle.catalogue.specs.Catalogue.{Catalogue}
use Rattle.catalogue.specs.Workers.{request_of, ahead, bare, begun}
use Rattle.catalogue.specs.Steps.Places.{key_refused}
use Rattle.catalogue.specs.Steps.Decide.{step_at, decide_at, decide, record_after}
use Rattle.catalogue.specs.declared.workers.Place.{Place}
use Rattle.catalogue.specs.declared.workers.Place.TheVariants.{Idle, AddV, RemV, ConV, AddEFindU, RemEFindU, ConEFindU, AddEFindV, RemEFindV, ConEFindV, AddE, RemE, ConE, Trial, TrialOpen}
use Rattle.catalogue.specs.declared.workers.Ahead.{Ahead}
use Rattle.catalogue.specs.declared.workers.Worker.{Worker}
use Rattle.catalogue.specs.declared.steps.Decision.{Decision}
use Rattle.catalogue.specs.declared.steps.Decision.TheVariants as decision
use Rattle.lent.proofs.Twins.{Twin, twin, pick_twin}
use Rattle.memory.proofs.Agrees.{Agree}
use Rattle.lent.proofs.Entries.{all_read, all_set, all_replicate}
use Rattle.lent.proofs.Ranges.{Near, PlaceNear, LeadsNear, InRange}
use Rattle.lent.proofs.Steps.Vertices.{step_vertex_twin}
use Rattle.lent.proofs.Steps.Finding.{step_contains_twin, step_find_u_twin, step_find_v_twin}
use Rattle.lent.proofs.Steps.Edges.{step_edge_twin, step_contains_edge_twin}
use Rattle.lent.proofs.Steps.Trials.{trial_shut_twin, trial_open_twin}

module _ {C D : Catalogue} (a : Agree C D) where
  step_at_twin : (place : Place) (r : Ahead) → PlaceNear place → Near r.x → Twin LeadsNear (step_at C place r) (step_at D place r)
  step_at_twin Idle r h f = twin _ tt
  step_at_twin (AddV k p c) r h f = step_vertex_twin a 1 k p c h.0 h.1
  step_at_twin (RemV k p c) r h f = step_vertex_twin a 2 k p c h.0 h.1
  step_at_twin (ConV k c) r h f = step_contains_twin a k c h
  step_at_twin (AddEFindU pair c) r h f = step_find_u_twin a 4 pair c h
  step_at_twin (RemEFindU pair c) r h f = step_find_u_twin a 5 pair c h
  step_at_twin (ConEFindU pair c) r h f = step_find_u_twin a 6 pair c h
  step_at_twin (AddEFindV pair u c) r h f = step_find_v_twin a 4 pair u h.0 c h.1
  step_at_twin (RemEFindV pair u c) r h f = step_find_v_twin a 5 pair u h.0 c h.1
  step_at_twin (ConEFindV pair u c) r h f = step_find_v_twin a 6 pair u h.0 c h.1
  step_at_twin (AddE ends p c) r h f = step_edge_twin a ends h 4 p c
  step_at_twin (RemE ends p c) r h f = step_edge_twin a ends h 5 p c
  step_at_twin (ConE ends c) r h f = step_contains_edge_twin a ends h c
  step_at_twin (Trial ends e) r h f = trial_shut_twin a r ends h e f
  step_at_twin (TrialOpen ends e y c) r h f = trial_open_twin a r ends h.0 e y c h.1

  pub decide_twin : (w : Worker) → InRange w → Twin LeadsNear (decide C w) (decide D w)
  unfolding decide_at
  decide_twin w r =
      pick_twin (key_refused (request_of w.place)) (λ e. twin _ tt)
      (λ e. step_at_twin w.place (ahead w.reach) r.place
      (all_read Near w.reach.queue w.reach.front 0 r.queue (omega arith)))

module _ (next : Place) (h : PlaceNear next) where
  pub bare_in_range : InRange (bare next)
  bare_in_range = record { place = h; queue = all_replicate Near 256 0 (omega arith) }

  begun_in_range : (v : ℕ) → Near v → InRange (begun next v)
  begun_in_range v g = record { place = h; queue = all_set Near (replicate 256 0) 0 v (all_replicate Near 256 0 (omega arith)) g }

-- the record after the step
pub after_in_range : (w : Worker) (d : Decision) → InRange w → LeadsNear d → InRange (record_after w d)
after_in_range w decision.Torn r h = r
after_in_range w decision.Code r h = r
after_in_range w (decision.Going next write) r h = bare_in_range next h
after_in_range w (decision.Begins next write v) r h = begun_in_range next h.0 v h.1
after_in_range w (decision.Keeps next) r h = record { place = h; queue = r.queue }
after_in_range w (decision.Meets next y) r h = record { place = h.0; queue = all_set Near w.reach.queue w.reach.back y r.queue h.1 }
after_in_range w (decision.Takes next) r h = record { place = h; queue = r.queue }
after_in_range w (decision.Reply number write) r h = bare_in_range Idle tt
