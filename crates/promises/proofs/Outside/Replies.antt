-- After a step: nothing new where it is refused, else what was decided; so a reply is one that was decided.
use Prim.Native.Nat.{ℕ, ◌≤◌, ◌<◌}
use mathlib.Core.Bool.{true}
use mathlib.Core.Path.{◌≡◌, refl, ap, sym, ◌∙◌}
use native.Mathlib.Omega.{arith}
use borrow.Author.Tests.{lt-ltb, le-leb}
use Rattle.std.proofs.Common.{Ok}
use Rattle.catalogue.specs.Catalogue.{Catalogue}
use Rattle.catalogue.specs.Calls.{After, refuse, count_fits, worker_fits, perform, step}
use Rattle.catalogue.specs.Workers.{worker_at, put, busy}
use Rattle.catalogue.specs.Writes.{commit}
use Rattle.catalogue.specs.Steps.Decide.{decide, record_after, write_of, answer_of}
use Rattle.catalogue.specs.declared.answers.Refusal.{Refusal}
use Rattle.catalogue.specs.declared.answers.Refusal.TheVariants as refusal
use Rattle.catalogue.specs.declared.answers.Answer.TheVariants as answer
use Rattle.catalogue.specs.declared.steps.Decision.{Decision}
use Rattle.catalogue.specs.declared.steps.Decision.TheVariants.{Torn, Code, Going, Begins, Keeps, Meets, Takes, Reply}
use Rattle.catalogue.specs.declared.workers.Table.{Table}
use Rattle.catalogue.specs.declared.workers.Worker.{Worker}
use Rattle.catalogue.specs.declared.writes.Write.{Write}
use Rattle.catalogue.specs.declared.writes.Write.TheVariants.{Nothing}
use Rattle.laws.proofs.Picks.{clash, pick_both}

module _ (C : Catalogue) (t : Table) (n : ℕ) where
  -- what there is after a decision
  abbrev pub after_of : Worker → Decision → After
  after_of w d = record { catalogue = commit C (write_of d); table = put t n (record_after w d); answer = answer_of d (record_after w d) }

  pub data Carried (a : After) : Type 0 where
    refused : (r : Refusal) → a ≡ refuse C t r → Carried a
    done : (d : Decision) → decide C (worker_at t n) ≡ d → a ≡ after_of (worker_at t n) d → Carried a

  by_decision : (d : Decision) → decide C (worker_at t n) ≡ d → Carried (perform C t n (worker_at t n) d)
  by_decision Torn e = refused refusal.Torn refl
  by_decision Code e = refused refusal.Code refl
  by_decision (Going next write) e = done (Going next write) e refl
  by_decision (Begins next write y) e = done (Begins next write y) e refl
  by_decision (Keeps next) e = done (Keeps next) e refl
  by_decision (Meets next y) e = done (Meets next y) e refl
  by_decision (Takes next) e = done (Takes next) e refl
  by_decision (Reply r write) e = done (Reply r write) e refl

  pub carried : Carried (step C t n)
  unfolding step
  carried =
      pick_both Carried (worker_fits t.count n) _ _
      (λ f. pick_both Carried (busy t n) _ _ (λ b. by_decision (decide C (worker_at t n)) refl) (λ b. refused refusal.Idle refl))
      (λ f. refused refusal.Worker refl)

  -- a reply, as it was decided
  pub record Replied (r : ℕ) : Type 0 where
    pub write : Write
    pub decides : decide C (worker_at t n) ≡ Reply r write
    pub leaves : (step C t n).catalogue ≡ commit C write

  pub replied_by : (r : ℕ) → (step C t n).answer ≡ Ok (answer.Reply r) → Replied r
  replied_by r q =
      elim carried [
        | refused s e ↦ clash (cc (ap (λ (a : After). a.answer) e))
        | done d e f ↦ by d e (ap (λ (a : After). a.catalogue) f) (sym (ap (λ (a : After). a.answer) f) ∙ q)
      ]
    where
      by : (d : Decision) → decide C (worker_at t n) ≡ d → (step C t n).catalogue ≡ commit C (write_of d)
          → answer_of d (record_after (worker_at t n) d) ≡ Ok (answer.Reply r) → Replied r
      by Torn e f a = clash (cc)
      by Code e f a = clash (cc)
      by (Going next write) e f a = clash (cc)
      by (Begins next write y) e f a = clash (cc)
      by (Keeps next) e f a = clash (cc)
      by (Meets next y) e f a = clash (cc)
      by (Takes next) e f a = clash (cc)
      by (Reply s write) e f a = let z : s ≡ r = cc in record { write = write; decides = rw (← z) e; leaves = f }

  -- a busy worker of the table replies what it decides
  pub replies : worker_fits t.count n ≡ true → busy t n ≡ true → (r : ℕ) (write : Write) → decide C (worker_at t n) ≡ Reply r write
      → (step C t n).answer ≡ Ok (answer.Reply r)
  unfolding step
  replies f b r write e = rw (f, b, e) refl

-- where nothing is written the catalogue is unchanged
pub unwritten : (C : Catalogue) (write : Write) → write ≡ Nothing → commit C write ≡ C
unfolding commit
unwritten C write e = rw e refl

-- a worker of the table
pub fits_table : (count workers w : ℕ) → count ≡ workers → workers ≤ 8 → w < workers → worker_fits count w ≡ true
unfolding worker_fits count_fits
fits_table count workers w e most low = rw (e, le-leb 1 workers (omega arith), le-leb workers 8 most, lt-ltb w workers low) refl
