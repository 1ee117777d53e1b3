-- The trial decides the same in catalogues that agree: what it meets are vertices of the pool.
use Prim.Native.Nat.{ℕ}
use lib.Dec.{eqb, leb}
use Rattle.catalogue.specs.Numbers.{edge_tail, marked, added}
use Rattle.catalogue.specs.Catalogue.{Catalogue}
use Rattle.catalogue.specs.Workers.{has}
use Rattle.catalogue.specs.Steps.Trial.{ends_fit, end_trial, cross, pass_edge, step_open, take_front, step_shut, see_trial, trial_shut, trial_open}
use Rattle.catalogue.specs.declared.workers.Ends.{Ends}
use Rattle.catalogue.specs.declared.workers.Ahead.{Ahead}
use Rattle.catalogue.specs.declared.workers.Place.{Place}
use Rattle.catalogue.specs.declared.workers.Place.TheVariants.{TrialOpen}
use Rattle.lent.proofs.Twins.{Twin, twin, Same, pick_twin, both_twin}
use Rattle.memory.proofs.Agrees.{Agree}
use Rattle.lent.proofs.Reading.{mark_read, first_read, edge_read, target_read}
use Rattle.lent.proofs.Ranges.{Near, EndsNear, PlaceNear, LeadsNear}
use Rattle.lent.proofs.Steps.Edges.{see_both_twin}

module _ {C D : Catalogue} (a : Agree C D) where
  end_trial_twin : (e tag reply : ℕ) → Twin LeadsNear (end_trial C e tag reply) (end_trial D e tag reply)
  unfolding end_trial
  end_trial_twin e tag reply = edge_read a e (twin _ tt) (λ next old b n. twin _ tt)

  module _ (r : Ahead) where
    cross_twin : (y : ℕ) (next : Place) → Near y → PlaceNear next → Twin LeadsNear (cross C r y next) (cross D r y next)
    unfolding cross
    cross_twin y next h g =
        mark_read a y h (twin _ tt) (twin _ g)
        (pick_twin (has r.met y) (λ e. twin _ g) (λ e. pick_twin (leb 256 r.back) (λ e. twin _ tt) (λ e. twin _ (g, h))))

    module _ (ends : Ends) (h : EndsNear ends) (e : ℕ) where
      step_open_twin : (x c : ℕ) → Near x → Twin LeadsNear (step_open C r ends e x c) (step_open D r ends e x c)
      unfolding step_open pass_edge
      step_open_twin x c f =
          mark_read a x f (twin _ tt) (twin _ h)
          (pick_twin (eqb c edge_tail) (λ q. twin _ h)
          (λ q. edge_read a c (twin _ tt)
          (λ next tag b n. pick_twin (eqb tag marked) (λ q. twin _ (h, f))
          (λ q. target_read a c b (twin _ tt) (λ y q. cross_twin y (TrialOpen ends e x next) q (h, f))))))

      step_shut_twin : Near r.x → Twin LeadsNear (step_shut C r ends e) (step_shut D r ends e)
      unfolding step_shut take_front
      step_shut_twin f =
          pick_twin (eqb r.front r.back) (λ q. end_trial_twin e added 1)
          (λ q. pick_twin (eqb r.x ends.u) (λ q. end_trial_twin e marked 6)
          (λ q. mark_read a r.x f (twin _ tt) (twin _ h) (first_read a r.x f (twin _ tt) (λ c tag b. twin _ (h, f)))))

      see_trial_twin : Same (see_trial C r ends) (see_trial D r ends)
      unfolding see_trial
      see_trial_twin = pick_twin (ends_fit r.front r.back) (λ q. see_both_twin a ends h) (λ q. twin _ tt)

      pub trial_shut_twin : Near r.x → Twin LeadsNear (trial_shut C r ends e) (trial_shut D r ends e)
      unfolding trial_shut
      trial_shut_twin f =
          both_twin (see_trial C r ends) (see_trial D r ends) see_trial_twin.same (twin _ tt) (end_trial_twin e marked 3) (step_shut_twin f)

      pub trial_open_twin : (x c : ℕ) → Near x → Twin LeadsNear (trial_open C r ends e x c) (trial_open D r ends e x c)
      unfolding trial_open
      trial_open_twin x c f =
          both_twin (see_trial C r ends) (see_trial D r ends) see_trial_twin.same (twin _ tt) (end_trial_twin e marked 3) (step_open_twin x c f)
