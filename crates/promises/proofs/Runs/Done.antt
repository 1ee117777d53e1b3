-- What is shown of every call: the machine makes a choice of its own with the same result and the same answer.
-- A refused call changes nothing.
use Prim.Native.Nat.{ℕ, ◌≤◌, ◌<◌}
use mathlib.Core.Bool.{true}
use mathlib.Core.Option.{Option, none}
use mathlib.Core.Path.{◌≡◌, sym, ap, ◌∙◌}
use mathlib.Core.Logic.{inl, inr}
use native.Mathlib.Omega.{arith}
use borrow.Author.Tests.{ltb-true}
use lib.Dec.{ltb}
use Rattle.std.proofs.Common.{Result, Err}
use Rattle.catalogue.specs.Tests.{upd}
use Rattle.catalogue.specs.Catalogue.{Catalogue}
use Rattle.catalogue.specs.Calls.{After, count_fits, worker_fits, refuse}
use Rattle.catalogue.specs.Choosing.{Moment}
use Rattle.catalogue.specs.Workers.{worker_at, put}
use Rattle.catalogue.specs.declared.answers.Refusal.{Refusal}
use Rattle.catalogue.specs.declared.answers.Refusal.TheVariants as refusal
use Rattle.catalogue.specs.declared.answers.Answer.{Answer}
use Rattle.catalogue.specs.declared.workers.Worker.{Worker}
use Rattle.laws.proofs.Picks.{both_true, clash}
use Rattle.row.proofs.Base.{upd_at, upd_other, same?}
use Rattle.row.specs.Rows.Row.{Call}
use Rattle.row.specs.Machine.World.{World, Spot, Rest}
use Rattle.row.specs.Machine.Moves.{move}
use Rattle.row.specs.Machine.Choices.{Conf, Choice, steps, close, act}
use Rattle.row.proofs.Events.Fine.{Fine, act_fine}
use Rattle.promises.proofs.Showing.Shows.{Shows, Shown}
use Rattle.promises.specs.Alone.{Ask}
use Rattle.promises.specs.Histories.{Begun}
use Rattle.promises.proofs.Runs.Telling.{begun_of, answered_of, Same}
use Rattle.promises.proofs.Runs.Held.{Held, shown_up, put_there, put_else, put_eight}

-- ---- one worker's record and spot are replaced

module _ (workers : ℕ) (m : Moment) (X : Conf) (h : Held workers m X) (v : ℕ) (low : v < workers) (most : workers ≤ 8)
    (C : Catalogue) (W : World) (r : Worker) (s : Spot) where
  pub held_with : Shows C W → Fine (record { world = W; at = upd X.at v s }) → X.world.v.used ≤ W.v.used → Shown W.v.used r s
      → Held workers (record { catalogue = C; table = put m.table v r }) (record { world = W; at = upd X.at v s })
  held_with a f u p = record {
    shows = a;
    fine = f;
    counted = h.counted;
    eight = put_eight m.table v r h.eight (omega arith);
    shown = λ w l. elim (same? w v) [
      | inl e ↦ rw (put_there m.table v r h.eight (omega arith) w e, upd_at X.at v s w e) p
      | inr n ↦
          rw (put_else m.table v r h.eight (omega arith) w n, upd_other X.at v s w n)
          (shown_up X.world.v.used W.v.used u (worker_at m.table w) (X.at w) (h.shown w l))
    ];
    beyond = λ w l. rw (upd_other X.at v s w (λ e. omega arith)) (h.beyond w l);
  }

-- ---- what one call does

-- What the answer to a call of the host reports: what it takes up for each worker, and the call that it answers.
-- A refusal reports nothing.
pub record Tells : Type 0 where
  pub up : Result Answer Refusal → ℕ → Option Ask
  pub call : Result Answer Refusal → (ℕ → Begun) → Option (Call Ask ℕ)
  pub no_up : (r : Refusal) (w : ℕ) → up (Err r) w ≡ none
  pub no_call : (r : Refusal) (b : ℕ → Begun) → call (Err r) b ≡ none

-- After a call the machine has made a choice of its own, with the same result, which reports the same;
-- and the call was not torn.
pub record Done (workers : ℕ) (X : Conf) (t : Tells) (a : After) : Type 0 where
  pub choice : Choice
  pub held : Held workers (record { catalogue = a.catalogue; table = a.table }) (act X choice)
  pub same : Same X choice (t.up a.answer) (t.call a.answer)
  pub whole : a.answer ≡ Err refusal.Torn → ⊥

module _ (workers : ℕ) (m : Moment) (X : Conf) (h : Held workers m X) (most : workers ≤ 8) where
  -- a worker beyond the table rests, and its step changes nothing
  nobody : X.at 8 ≡ Rest
  nobody = h.beyond 8 most

  quiet_world : (act X (steps 8)).world ≡ X.world
  quiet_world = ap (λ s. (move X.world s).world) nobody

  quiet_at : (w : ℕ) → (act X (steps 8)).at w ≡ X.at w
  quiet_at w =
      elim (same? w 8) [
        | inl e ↦ upd_at X.at 8 _ w e ∙ ap (λ s. (move X.world s).spot) nobody ∙ sym (ap X.at e ∙ nobody)
        | inr n ↦ upd_other X.at 8 _ w n
      ]

  pub quiet : Held workers m (act X (steps 8))
  quiet = record {
    shows = rw quiet_world h.shows;
    fine = act_fine X h.fine (steps 8) (λ W e g. clash (cc));
    counted = h.counted;
    eight = h.eight;
    shown = λ w l. rw (quiet_world, quiet_at w) (h.shown w l);
    beyond = λ w l. quiet_at w ∙ h.beyond w l;
  }

  -- and reports nothing
  pub quiet_same : (up : ℕ → Option Ask) (call : (ℕ → Begun) → Option (Call Ask ℕ)) → ((w : ℕ) → up w ≡ none) → ((b : ℕ → Begun) → call b ≡ none)
      → Same X (steps 8) up call
  quiet_same up call u c = record {
    taken = λ w. sym (u w);
    answered = λ b. ap (λ s. answered_of (close (b 8) (move X.world s).answer)) nobody ∙ sym (c (λ w. begun_of (b w)));
    honest = λ W e. clash (cc);
  }

  -- a refused call: nothing changes
  pub refused : (t : Tells) (r : Refusal) → (r ≡ refusal.Torn → ⊥) → Done workers X t (refuse m.catalogue m.table r)
  refused t r n = record {
    choice = steps 8;
    held = quiet;
    same = quiet_same (t.up (Err r)) (t.call (Err r)) (t.no_up r) (t.no_call r);
    whole = λ e. n (cc);
  }

-- a worker that the table has
pub in_table : {workers : ℕ} {m : Moment} {X : Conf} → Held workers m X → (v : ℕ) → worker_fits m.table.count v ≡ true → v < workers
unfolding worker_fits
in_table {m = m} h v e = omega (arith, ltb-true v m.table.count (both_true (count_fits m.table.count) (ltb v m.table.count) e).1, h.counted)
