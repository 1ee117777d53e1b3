-- Taking up and a step do the same to catalogues that agree, for a table in range;
-- so on lent memory they do what they do on its catalogue.
use Prim.Native.Nat.{ℕ}
use mathlib.Core.Bool.{Bool, true, false}
use mathlib.Core.Path.{◌≡◌, refl}
use native.Mathlib.Omega.{arith}
use Rattle.std.proofs.Common.{Result, Ok, Err}
use Rattle.catalogue.specs.Tests.{pick}
use Rattle.catalogue.specs.Numbers.{head}
use Rattle.catalogue.specs.Catalogue.{Catalogue}
use Rattle.catalogue.specs.Workers.{bare, blank, worker_at, put, busy}
use Rattle.catalogue.specs.Writes.{commit}
use Rattle.catalogue.specs.Steps.Decide.{decide, record_after, write_of, answer_of}
use Rattle.catalogue.specs.Calls.{After, refuse, worker_fits, admit, admitted, take_up, perform, step}
use Rattle.catalogue.specs.Lent.{view, lay, sized, after_call, lent_take_up, lent_step}
use Rattle.catalogue.specs.declared.answers.Refusal.{Refusal}
use Rattle.catalogue.specs.declared.answers.Refusal.TheVariants as refusal
use Rattle.catalogue.specs.declared.workers.Place.{Place}
use Rattle.catalogue.specs.declared.workers.Request.{Request}
use Rattle.catalogue.specs.declared.workers.Worker.{Worker}
use Rattle.catalogue.specs.declared.workers.Table.{Table}
use Rattle.catalogue.specs.declared.steps.Decision.{Decision}
use Rattle.catalogue.specs.declared.steps.Decision.TheVariants as decision
use Rattle.laws.proofs.Admits.{admit_both, admit_same}
use Rattle.laws.proofs.Leads.{vertex_next_in}
use Rattle.memory.proofs.Laid.{length_keys, length_words}
use Rattle.memory.proofs.Agrees.{Agree, agree_laid, lay_agree, commit_agree}
use Rattle.lent.proofs.Agrees.{vertex_link_same}
use Rattle.lent.proofs.Entries.{all_read, all_set}
use Rattle.lent.proofs.Ranges.{InRange, TableInRange, PlaceNear, LeadsNear, first_near}
use Rattle.lent.proofs.Twins.{Twin}
use Rattle.lent.proofs.Steps.Deciding.{decide_twin, bare_in_range, after_in_range}

-- after two calls: catalogues that agree, the same table, which is in range, and the same answer
pub record Alike (a b : After) : Type 0 where
  pub agree : Agree a.catalogue b.catalogue
  pub table : a.table ≡ b.table
  pub answer : a.answer ≡ b.answer
  pub range : TableInRange b.table

pick_alike : (t : Bool) {a b a' b' : After} → Alike a a' → Alike b b' → Alike (pick t a b) (pick t a' b')
pick_alike true h g = h
pick_alike false h g = g

-- an admission to a place in range
abbrev AdmitsNear : Result Place Refusal → Type 0
AdmitsNear (Ok place) = PlaceNear place
AdmitsNear (Err why) = Unit {0}

admit_near : (C : Catalogue) (place : Place) (q : Request) → AdmitsNear (admit C place q)
admit_near C place q =
    admit_both C place q AdmitsNear (λ why torn. tt) (λ first h. first_near q first (vertex_next_in C.vertices.link head first h.tag h.leads))

module _ {C D : Catalogue} (a : Agree C D) (t : Table) (r : TableInRange t) where
  refuse_alike : (why : Refusal) → Alike (refuse C t why) (refuse D t why)
  refuse_alike why = record { agree = a; table = refl; answer = refl; range = r }

  -- what there is after a decision that does not refuse
  abbrev leaves : Catalogue → ℕ → Worker → Decision → After
  leaves E n w d = record { catalogue = commit E (write_of d); table = put t n (record_after w d); answer = answer_of d (record_after w d) }

  perform_alike : (n : ℕ) (w : Worker) → InRange w → (d : Decision) → LeadsNear d → Alike (perform C t n w d) (perform D t n w d)
  perform_alike n w h d g = by d left
    where
      left : Alike (leaves C n w d) (leaves D n w d)
      left = record {
        agree = commit_agree a (write_of d);
        table = refl;
        answer = refl;
        range = all_set InRange t.workers n (record_after w d) r (after_in_range w d h g);
      }

      by : (d : Decision) → Alike (leaves C n w d) (leaves D n w d) → Alike (perform C t n w d) (perform D t n w d)
      by decision.Torn l = refuse_alike refusal.Torn
      by decision.Code l = refuse_alike refusal.Code
      by (decision.Going next write) l = l
      by (decision.Begins next write v) l = l
      by (decision.Keeps next) l = l
      by (decision.Meets next y) l = l
      by (decision.Takes next) l = l
      by (decision.Reply number write) l = l

  pub step_alike : (w : ℕ) → Alike (step C t w) (step D t w)
  unfolding step
  step_alike w =
      pick_alike (worker_fits t.count w) (pick_alike (busy t w) performed (refuse_alike refusal.Idle)) (refuse_alike refusal.Worker)
    where
      at : InRange (worker_at t w)
      at = all_read InRange t.workers w blank r (record { place = tt; queue = tt })

      decided : Twin LeadsNear (decide C (worker_at t w)) (decide D (worker_at t w))
      decided = decide_twin a (worker_at t w) at

      performed : Alike (perform C t w (worker_at t w) (decide C (worker_at t w))) (perform D t w (worker_at t w) (decide D (worker_at t w)))
      performed = rw (← decided.same) (perform_alike w (worker_at t w) at (decide C (worker_at t w)) decided.good)

  admitted_alike : (w : ℕ) (d : Result Place Refusal) → AdmitsNear d → Alike (admitted C t w d) (admitted D t w d)
  admitted_alike w (Ok place) h = record {
    agree = a;
    table = refl;
    answer = refl;
    range = all_set InRange t.workers w (bare place) r (bare_in_range place h);
  }
  admitted_alike w (Err why) h = refuse_alike why

  pub take_up_alike : (w : ℕ) (q : Request) → Alike (take_up C t w q) (take_up D t w q)
  unfolding take_up
  take_up_alike w q = pick_alike (worker_fits t.count w) given (refuse_alike refusal.Worker)
    where
      place : Place
      place = (worker_at t w).place

      given : Alike (admitted C t w (admit C place q)) (admitted D t w (admit D place q))
      given = rw (admit_same C place q D (vertex_link_same a head (omega arith))) (admitted_alike w (admit D place q) (admit_near D place q))

-- laid memory has the stated sizes
pub sized_lay : (C : Catalogue) → sized (lay C) ≡ true
unfolding sized
sized_lay C = rw (length_keys C, length_words C) refl

after_same : (a b : After) → Alike a b → after_call a ≡ after_call b
after_same a b l = λ i. record { memory = lay_agree l.agree i; outcome = record { table = l.table i; answer = l.answer i } }

module _ (C : Catalogue) (t : Table) (r : TableInRange t) where
  pub lent_step_laid : (w : ℕ) → lent_step (lay C) t w ≡ after_call (step C t w)
  unfolding lent_step
  lent_step_laid w = rw (sized_lay C) (after_same (step (view (lay C)) t w) (step C t w) (step_alike (agree_laid C) t r w))

  pub lent_take_up_laid : (w : ℕ) (q : Request) → lent_take_up (lay C) t w q ≡ after_call (take_up C t w q)
  unfolding lent_take_up
  lent_take_up_laid w q = rw (sized_lay C) (after_same (take_up (view (lay C)) t w q) (take_up C t w q) (take_up_alike (agree_laid C) t r w q))
