-- One step: of a record, and of a worker of a table.
use Prim.Native.Nat.{ℕ}
use mathlib.Core.Bool.{true, false}
use mathlib.Core.List.{List}
use mathlib.Core.Path.{◌≡◌, refl, sym, ◌∙◌, ap, subst}
use lib.IntN.{ℤ}
use lib.Seq.{set-get_or}
use Rattle.std.proofs.Common.{Result}
use Rattle.catalogue.specs.Catalogue.{Catalogue}
use Rattle.catalogue.specs.Writes.{commit}
use Rattle.catalogue.specs.Workers.{busy_at, blank, worker_at, put}
use Rattle.catalogue.specs.Calls.{After, refuse, worker_fits, perform, step}
use Rattle.catalogue.specs.Lent.{Memory, memory_of, view, sized, outcome_of, refused, lent_step}
use Rattle.catalogue.specs.Steps.Decide.{decide, record_after, write_of, answer_of, stepped}
use Rattle.catalogue.specs.declared.answers.Refusal.{Refusal}
use Rattle.catalogue.specs.declared.answers.Answer.{Answer}
use Rattle.catalogue.specs.declared.answers.Outcome.{Outcome}
use Rattle.catalogue.specs.declared.answers.Refusal.TheVariants as refusal
use Rattle.catalogue.specs.declared.answers.Stepped.{Stepped}
use Rattle.catalogue.specs.declared.workers.Table.{Table}
use Rattle.catalogue.specs.declared.workers.Worker.{Worker}
use Rattle.catalogue.specs.declared.writes.Write.{Write}
use Rattle.catalogue.specs.declared.steps.Decision.{Decision}
use Rattle.catalogue.specs.declared.steps.Decision.TheVariants.{Torn, Code, Going, Begins, Keeps, Meets, Takes, Reply}
use Rattle.memory.specs.Memories.{Hold, Writable}
use Rattle.calls.specs.Promised.{Steps}
use Rattle.memory.proofs.Laid.{view_held}
use Rattle.memory.proofs.Sizes.{sized_is}
use Rattle.steps.specs.Follows.{Follows}
use Rattle.steps.proofs.Made.{decide_follows}

-- a decision that follows has a write within the pools
follows_writable : (w : Worker) (d : Decision) → Follows w d → Writable (write_of d)
follows_writable w Torn h = tt
follows_writable w Code h = tt
follows_writable w (Going next write) h = h
follows_writable w (Begins next write v) h = h
follows_writable w (Keeps next) h = tt
follows_writable w (Meets next y) h = tt
follows_writable w (Takes next) h = tt
follows_writable w (Reply number write) h = h

module _ (C : Catalogue) (w : Worker) (d : Decision) where
  pub follows : d ≡ decide C w → Follows w d
  follows e = subst (Follows w) (sym e) (decide_follows C w)

  pub writable : (z : Write) → z ≡ write_of d → d ≡ decide C w → Writable z
  writable z f e = subst Writable (sym f) (follows_writable w d (follows e))

  pub stepped_is : (after : Worker) (a : Result Answer Refusal) → d ≡ decide C w → after ≡ record_after w d → a ≡ answer_of d after → ◌≡◌ {A = Stepped} (record { worker = after; answer = a }) (stepped w (decide C w))
  stepped_is after a e f g = rw (← e, g, f)

  pub written_is : (keys : List ℤ) (words : List ℕ) (z : Write) → d ≡ decide C w → z ≡ write_of d → Hold keys words (commit C z) → Hold keys words (commit C (write_of (decide C w)))
  written_is keys words z e f h = subst (λ (z : Write). Hold keys words (commit C z)) (f ∙ ap write_of e) h

-- ---- a worker of a table

put_back : (t : Table) (n : ℕ) → put t n (worker_at t n) ≡ t
put_back t n = ap (λ (ws : List Worker). record { count = t.count; workers = ws }) (set-get_or t.workers n blank)

-- a step that has decided, its refusals among the rest: those put the record back unchanged
performed : (C : Catalogue) (t : Table) (n : ℕ) (d : Decision) → perform C t n (worker_at t n) d ≡
    record { catalogue = commit C (write_of d); table = put t n (record_after (worker_at t n) d); answer = answer_of d (record_after (worker_at t n) d) }
unfolding commit
performed C t n Torn = ap (λ (t : Table). record { catalogue = C; table = t; answer = answer_of Torn (worker_at t n) }) (sym (put_back t n))
performed C t n Code = ap (λ (t : Table). record { catalogue = C; table = t; answer = answer_of Code (worker_at t n) }) (sym (put_back t n))
performed C t n (Going next write) = refl
performed C t n (Begins next write v) = refl
performed C t n (Keeps next) = refl
performed C t n (Meets next y) = refl
performed C t n (Takes next) = refl
performed C t n (Reply number write) = refl

module _ (keys : List ℤ) (words : List ℕ) (t : Table) (n : ℕ) (x : Outcome) where
  abbrev m : Memory
  m = memory_of keys words

  -- memory of a wrong size
  pub left_unsized : sized m ≡ false → x ≡ refused t refusal.Room → Steps m t n x keys words
  unfolding lent_step
  left_unsized h e = rw h (e, (refl, refl))

  module _ (h : sized m ≡ true) where
    left : (a : After) → step (view m) t n ≡ a → x ≡ outcome_of a → (keys' : List ℤ) (words' : List ℕ) → Hold keys' words' a.catalogue → Steps m t n x keys' words'
    unfolding lent_step
    left a e f keys' words' g = rw (h, e) (f, g)

    -- unchanged memory is that of its view
    stays : Hold keys words (view m)
    stays = let s = sized_is m h in view_held keys words s.keyed s.worded

    pub left_worker : worker_fits t.count n ≡ false → x ≡ refused t refusal.Worker → Steps m t n x keys words
    unfolding step
    left_worker f e = left (refuse (view m) t refusal.Worker) (rw f) e keys words stays

    module _ (f : worker_fits t.count n ≡ true) where
      pub left_idle : busy_at (worker_at t n).place ≡ false → x ≡ refused t refusal.Idle → Steps m t n x keys words
      unfolding step
      left_idle g e = left (refuse (view m) t refusal.Idle) (rw (f, g)) e keys words stays

      -- a step that is taken
      pub left_stepped :
          (w : Worker) (s : Stepped) (after : Table) (keys' : List ℤ) (words' : List ℕ) →
          busy_at w.place ≡ true → w ≡ worker_at t n → s ≡ stepped w (decide (view m) w) → after ≡ put t n s.worker → x ≡ record { table = after; answer = s.answer } →
          Hold keys' words' (commit (view m) (write_of (decide (view m) w))) → Steps m t n x keys' words'
      unfolding step
      left_stepped w s after keys' words' g a b c e d =
          let u = worker_at t n in
          left
          (record { catalogue = commit (view m) (write_of (decide (view m) u)); table = put t n (record_after u (decide (view m) u)); answer = answer_of (decide (view m) u) (record_after u (decide (view m) u)) })
          (rw (f, ap (λ (w : Worker). busy_at w.place) (sym a) ∙ g) (performed (view m) t n (decide (view m) u)))
          (e ∙ ap (λ (t : Table). record { table = t; answer = s.answer }) c
          ∙ ap (λ (s : Stepped). record { table = put t n s.worker; answer = s.answer }) (b ∙ ap (λ (w : Worker). stepped w (decide (view m) w)) a))
          keys'
          words'
          (subst (λ (w : Worker). Hold keys' words' (commit (view m) (write_of (decide (view m) w)))) a d)

pub ruleset record_step = (follows, writable, stepped_is, written_is)

pub ruleset stepping = (left_stepped, left_unsized, left_worker, left_idle)
