-- A step of the one record, by its ways out.
use Prim.Native.Nat.{ℕ}
use mathlib.Core.Bool.{true, false}
use mathlib.Core.List.{List}
use mathlib.Core.Path.{◌≡◌, refl, sym, ◌∙◌, ap}
use lib.IntN.{ℤ}
use Rattle.catalogue.specs.Workers.{busy_at, put}
use Rattle.catalogue.specs.Calls.{worker_fits}
use Rattle.catalogue.specs.Writes.{commit}
use Rattle.catalogue.specs.Lent.{Memory, memory_of, view, sized}
use Rattle.catalogue.specs.Steps.Decide.{decide, stepped, write_of}
use Rattle.catalogue.specs.declared.answers.Outcome.{Outcome}
use Rattle.catalogue.specs.declared.answers.Refusal.TheVariants as refusal
use Rattle.catalogue.specs.declared.answers.Stepped.{Stepped}
use Rattle.catalogue.specs.declared.workers.Worker.{Worker}
use Rattle.memory.specs.Memories.{Hold}
use Rattle.calls.specs.Promised as table
use Rattle.workers.proofs.CheckLaws.{worker_below}
use Rattle.calls.proofs.Stepping.{left_unsized, left_worker, left_idle, left_stepped}
use Rattle.border.specs.Kept.{worker_in, table_in, put_record, slot}
use Rattle.border.specs.Packing.{packed_answer}
use Rattle.border.specs.declared.kept.Kept.{Kept}
use Rattle.border.specs.declared.kept.Record.{Record}
use Rattle.host.specs.Promised.{refuses, Steps, StepsOne}
use Rattle.host.specs.Moves.{refused, settled}
use Rattle.host.specs.declared.one.Moved.{Moved}
use Rattle.host.proofs.Moves.{Stores, leaves, stores_refused, stores_settled, refused_stays, worker_is}

-- the call on the table and what is stored back of its outcome
steps : (m : Memory) (t : Kept) (n : ℕ) (x y : Moved) (o : Outcome) (keys : List ℤ) (words : List ℕ) → x ≡ y → Stores t n y o → table.Steps m (table_in t) n o keys words → Steps m t n x.told (put_record t (slot n) x.kept) keys words
steps m t n x y o keys words e h s = (
  ap (λ (x : Moved). x.told) e ∙ h.tells ∙ ap (λ (o : Outcome). packed_answer o.answer) s.0,
  (leaves t n x y o _ e h s.0, s.1),
)

module _ (keys : List ℤ) (words : List ℕ) (count n : ℕ) (r : Record) (x : Moved) where
  abbrev m : Memory
  m = memory_of keys words

  pub one_unsized : sized m ≡ false → x ≡ refused r refusal.Room → StepsOne m count n r x keys words
  one_unsized h e t c there = steps m t n x _ _ keys words e (stores_refused t n r there refusal.Room) (left_unsized keys words (table_in t) n _ h refl)

  module _ (h : sized m ≡ true) where
    pub one_worker : worker_fits count n ≡ false → x ≡ refused r refusal.Worker → StepsOne m count n r x keys words
    one_worker f e t c there =
        steps m t n x _ _ keys words e (stores_refused t n r there refusal.Worker)
        (left_worker keys words (table_in t) n _ h (ap (λ (i : ℕ). worker_fits i n) c ∙ f) refl)

    module _ (f : worker_fits count n ≡ true) (w : Worker) (e : w ≡ worker_in r) where
      pub one_idle : busy_at w.place ≡ false → x ≡ refused r refusal.Idle → StepsOne m count n r x keys words
      one_idle g q t c there =
          let here = e ∙ worker_is t n r there (worker_below count n f) in
          steps m t n x _ _ keys words q (stores_refused t n r there refusal.Idle)
          (left_idle keys words (table_in t) n _ h (ap (λ (i : ℕ). worker_fits i n) c ∙ f) (ap (λ (w : Worker). busy_at w.place) (sym here) ∙ g) refl)

      pub one_stepped : busy_at w.place ≡ true → (s : Stepped) (keys' : List ℤ) (words' : List ℕ) → s ≡ stepped w (decide (view m) w) → x ≡ settled r s.worker s.answer
          → Hold keys' words' (commit (view m) (write_of (decide (view m) w))) → StepsOne m count n r x keys' words'
      one_stepped g s keys' words' d q held t c there =
          let here = e ∙ worker_is t n r there (worker_below count n f) in
          steps m t n x _ _ keys' words' q (stores_settled t n r there (worker_below count n f) s.worker s.answer
          (λ why. ap (λ (s : Stepped). s.worker) d ∙ refused_stays w (decide (view m) w) (ap (λ (s : Stepped). refuses s.answer) (sym d) ∙ why) ∙ here))
          (left_stepped keys words (table_in t) n _ h (ap (λ (i : ℕ). worker_fits i n) c ∙ f)
          w s (put (table_in t) n s.worker) keys' words' g here d refl refl held)
