-- A choice to step: where it is refused nothing changes, and else the machine makes the same move.
use Prim.Native.Nat.{ℕ, ◌≤◌, ◌<◌}
use mathlib.Core.Bool.{true, not}
use mathlib.Core.Option.{Option, none, some}
use mathlib.Core.Path.{◌≡◌, refl, sym, ap, ◌∙◌, subst}
use native.Mathlib.Omega.{arith}
use Rattle.std.proofs.Common.{Result, Ok, Err}
use Rattle.catalogue.specs.Catalogue.{Catalogue}
use Rattle.catalogue.specs.Calls.{After, worker_fits, refuse, perform, step}
use Rattle.catalogue.specs.Choosing.{Moment}
use Rattle.catalogue.specs.Workers.{worker_at, put, busy}
use Rattle.catalogue.specs.Writes.{commit}
use Rattle.catalogue.specs.Steps.Decide.{decide, record_after, write_of, answer_of}
use Rattle.catalogue.specs.declared.answers.Refusal.{Refusal}
use Rattle.catalogue.specs.declared.answers.Refusal.TheVariants as refusal
use Rattle.catalogue.specs.declared.answers.Answer.{Answer}
use Rattle.catalogue.specs.declared.answers.Answer.TheVariants as answer
use Rattle.catalogue.specs.declared.steps.Decision.{Decision}
use Rattle.catalogue.specs.declared.steps.Decision.TheVariants as decision
use Rattle.catalogue.specs.declared.workers.Table.{Table}
use Rattle.catalogue.specs.declared.workers.Worker.{Worker}
use Rattle.laws.proofs.Picks.{pick_both, clash}
use Rattle.row.specs.Rows.Row.{Call}
use Rattle.row.specs.Machine.World.{World, Spot, Rest}
use Rattle.row.specs.Machine.Moves.{move}
use Rattle.row.specs.Machine.Choices.{resting, Conf, steps, act, Began, close}
use Rattle.row.proofs.Events.Fine.{more_vertices, act_fine, act_both}
use Rattle.promises.specs.Alone.{Ask}
use Rattle.promises.specs.Histories.{Begun, answers}
use Rattle.promises.proofs.Showing.Shows.{Sure, reply_of}
use Rattle.promises.proofs.Steps.Follow.{follow}
use Rattle.promises.proofs.Runs.Held.{Held, busy_is}
use Rattle.promises.proofs.Runs.Telling.{begun_of, answered_of}
use Rattle.promises.proofs.Runs.Done.{held_with, Tells, Done, refused, in_table}

-- what an answer replies, and the call that it answers
abbrev pub replied : Result Answer Refusal → Option ℕ
replied (Ok (answer.Going met)) = none
replied (Ok (answer.Reply n)) = some n
replied (Err r) = none

abbrev replying : Begun → Option ℕ → Option (Call Ask ℕ)
replying b none = none
replying b (some r) = some (record { first = b.first; request = b.ask; reply = r })

-- closed by the machine, it is the same call
replying_is : (b : Began) (o : Option ℕ) → answered_of (close b o) ≡ replying (begun_of b) o
replying_is b none = refl
replying_is b (some r) = refl

answers_is : (b : Begun) (a : Result Answer Refusal) → answers b a ≡ replying b (replied a)
answers_is b (Ok (answer.Going met)) = refl
answers_is b (Ok (answer.Reply n)) = refl
answers_is b (Err r) = refl

-- A decision that does not refuse is carried out: its write and record are left, and its reply is answered.
record Performed (C : Catalogue) (t : Table) (n : ℕ) (w : Worker) (d : Decision) : Type 0 where
  leaves : perform C t n w d ≡ record { catalogue = commit C (write_of d); table = put t n (record_after w d); answer = answer_of d (record_after w d) }
  replies : replied (answer_of d (record_after w d)) ≡ reply_of d
  whole : answer_of d (record_after w d) ≡ Err refusal.Torn → ⊥

performed : (C : Catalogue) (t : Table) (n : ℕ) (w : Worker) (d : Decision) → Sure d → Performed C t n w d
performed C t n w decision.Torn s = absurd s
performed C t n w decision.Code s = absurd s
performed C t n w (decision.Going next write) s = record { leaves = refl; replies = refl; whole = λ e. clash (cc) }
performed C t n w (decision.Begins next write v) s = record { leaves = refl; replies = refl; whole = λ e. clash (cc) }
performed C t n w (decision.Keeps next) s = record { leaves = refl; replies = refl; whole = λ e. clash (cc) }
performed C t n w (decision.Meets next y) s = record { leaves = refl; replies = refl; whole = λ e. clash (cc) }
performed C t n w (decision.Takes next) s = record { leaves = refl; replies = refl; whole = λ e. clash (cc) }
performed C t n w (decision.Reply number write) s = record { leaves = refl; replies = refl; whole = λ e. clash (cc) }

resting? : (s : Spot) → not (resting s) ≡ true → s ≡ Rest → ⊥
resting? s b e = clash (cc)

-- After a step that is carried out the machine's worker has made its move: the same is left, and the same replied.
pub record Carried (workers : ℕ) (X : Conf) (v : ℕ) (a : After) : Type 0 where
  pub held : Held workers (record { catalogue = a.catalogue; table = a.table }) (act X (steps v))
  pub same_reply : replied a.answer ≡ (move X.world (X.at v)).answer
  pub whole : a.answer ≡ Err refusal.Torn → ⊥

module _ (workers : ℕ) (m : Moment) (X : Conf) (h : Held workers m X) (most : workers ≤ 8) (v : ℕ) where
  abbrev done : After
  done = perform m.catalogue m.table v (worker_at m.table v) (decide m.catalogue (worker_at m.table v))

  -- a step takes nothing up, and answers what its worker has begun
  abbrev pub stepping : Tells
  stepping = record { up = λ a w. none; call = λ a b. answers (b v) a; no_up = λ r w. refl; no_call = λ r b. refl }

  -- a busy worker of the table
  pub carried : v < workers → busy m.table v ≡ true → Carried workers X v done
  carried low b =
      let W : World = X.world in
      let w : Worker = worker_at m.table v in
      let p = h.shown v (omega arith) in
      let awake = resting? (X.at v) (sym (busy_is W.v.used w (X.at v) p.stands) ∙ b) in
      let f = follow (X.at v) awake m.catalogue W h.shows h.fine.good w (h.fine.ok v) p in
      let d = f.decision in
      let q = performed m.catalogue m.table v w d f.sure in
      subst (Carried workers X v) (sym (ap (perform m.catalogue m.table v w) f.decides ∙ q.leaves))
      (record {
        held =
            held_with workers m X h v low most (commit m.catalogue (write_of d)) (move W (X.at v)).world (record_after w d) (move W (X.at v)).spot
            f.world (act_fine X h.fine (steps v) (λ W e g. clash (cc))) (more_vertices h.fine.good (act_both X h.fine (steps v) (λ W z. clash (cc)))) f.spot;
        same_reply = q.replies ∙ f.reply;
        whole = q.whole;
      })

  -- what holds of every refusal, and of a step that is carried out, holds of the call
  pub stepping_both : (P : After → Type 0) → ((r : Refusal) → (r ≡ refusal.Torn → ⊥) → P (refuse m.catalogue m.table r)) → (Carried workers X v done → P done)
      → P (step m.catalogue m.table v)
  unfolding step
  stepping_both P no' yes' =
      pick_both P (worker_fits m.table.count v) _ _
      (λ e. pick_both P (busy m.table v) _ _ (λ b. yes' (carried (in_table h v e) b)) (λ b. no' refusal.Idle (λ z. clash (cc))))
      (λ e. no' refusal.Worker (λ z. clash (cc)))

  pub steps_done : Done workers X stepping (step m.catalogue m.table v)
  steps_done =
      stepping_both (Done workers X stepping) (refused workers m X h most stepping)
      (λ c. record {
        choice = steps v;
        held = c.held;
        same = record {
          taken = λ x. refl;
          answered = λ b. replying_is (b v) (move X.world (X.at v)).answer ∙ sym (answers_is (begun_of (b v)) done.answer ∙ ap (replying (begun_of (b v))) c.same_reply);
          honest = λ W e. clash (cc);
        };
        whole = c.whole;
      })
