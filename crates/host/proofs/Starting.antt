-- Taking up by the one record, by its ways out.
use Prim.Native.Nat.{ℕ, ◌<◌}
use mathlib.Core.Bool.{true, false}
use mathlib.Core.Path.{◌≡◌, refl, ◌∙◌, ap}
use Rattle.std.proofs.Common.{Result, Ok, Err}
use Rattle.catalogue.specs.Catalogue.{Catalogue}
use Rattle.catalogue.specs.Workers.{bare}
use Rattle.catalogue.specs.Calls.{worker_fits, admit, admitted, take_up}
use Rattle.catalogue.specs.Lent as lent
use Rattle.catalogue.specs.Lent.{Memory, view, sized, outcome_of, lent_take_up}
use Rattle.catalogue.specs.declared.answers.Answer.TheVariants.{Going}
use Rattle.catalogue.specs.declared.answers.Outcome.{Outcome}
use Rattle.catalogue.specs.declared.answers.Refusal.{Refusal}
use Rattle.catalogue.specs.declared.answers.Refusal.TheVariants as refusal
use Rattle.catalogue.specs.declared.workers.Place.{Place}
use Rattle.catalogue.specs.declared.workers.Request.{Request}
use Rattle.catalogue.specs.declared.workers.Table.{Table}
use Rattle.catalogue.specs.declared.workers.Worker.{Worker}
use Rattle.workers.proofs.CheckLaws.{worker_below}
use Rattle.border.specs.Kept.{worker_in, table_in, put_record, record_at, slot}
use Rattle.border.specs.Packing.{packed_answer}
use Rattle.border.specs.declared.kept.Kept.{Kept}
use Rattle.border.specs.declared.kept.Record.{Record}
use Rattle.host.specs.Promised.{TakesUp, TakesUpOne}
use Rattle.host.specs.Moves.{refused, entered}
use Rattle.host.specs.declared.one.Moved.{Moved}
use Rattle.host.proofs.Moves.{Stores, leaves, stores_refused, stores_moved, worker_is}

-- one record and the table
stores_entered : (t : Kept) (n : ℕ) (r : Record) → record_at t (slot n) ≡ r → n < 8 → (C : Catalogue) (a : Result Place Refusal)
    → Stores t n (entered r a) (outcome_of (admitted C (table_in t) n a))
stores_entered t n r there below C (Ok place) = stores_moved t n r there below (bare place) (Going 0)
stores_entered t n r there below C (Err why) = stores_refused t n r there why

-- the call on the table and what is stored back of its outcome
takes : (m : Memory) (t : Kept) (n : ℕ) (q : Request) (x y : Moved) (o : Outcome) → x ≡ y → Stores t n y o → o ≡ (lent_take_up m (table_in t) n q).outcome
    → TakesUp m t n q x.told (put_record t (slot n) x.kept)
takes m t n q x y o e h s = (
  ap (λ (x : Moved). x.told) e ∙ h.tells ∙ ap (λ (o : Outcome). packed_answer o.answer) s,
  leaves t n x y o _ e h s,
)

-- the outcome of the call on the table, by the check of the sizes
module _ (m : Memory) (t : Table) (n : ℕ) (q : Request) (x : Outcome) where
  taken_room : x ≡ lent.refused t refusal.Room → sized m ≡ false → x ≡ (lent_take_up m t n q).outcome
  unfolding lent_take_up
  taken_room e h = e ∙ simp h

  taken_up : sized m ≡ true → x ≡ outcome_of (take_up (view m) t n q) → x ≡ (lent_take_up m t n q).outcome
  unfolding lent_take_up
  taken_up h e = e ∙ simp h

module _ (m : Memory) (count n : ℕ) (r : Record) (q : Request) (x : Moved) where
  pub take_unsized : sized m ≡ false → x ≡ refused r refusal.Room → TakesUpOne m count n r q x
  take_unsized h e t c there = takes m t n q x _ _ e (stores_refused t n r there refusal.Room) (taken_room m (table_in t) n q _ refl h)

  module _ (h : sized m ≡ true) where
    pub take_worker : worker_fits count n ≡ false → x ≡ refused r refusal.Worker → TakesUpOne m count n r q x
    unfolding take_up
    take_worker f e t c there =
        takes m t n q x _ _ e (stores_refused t n r there refusal.Worker) (taken_up m (table_in t) n q _ h (rw (ap (λ (i : ℕ). worker_fits i n) c ∙ f)))

    pub take_admitted : worker_fits count n ≡ true → (w : Worker) → w ≡ worker_in r → (a : Result Place Refusal) → a ≡ admit (view m) w.place q
        → x ≡ entered r a → TakesUpOne m count n r q x
    unfolding take_up
    take_admitted f w e a d y t c there =
        let here = e ∙ worker_is t n r there (worker_below count n f) in
        takes m t n q x _ _ y (stores_entered t n r there (worker_below count n f) (view m) a)
        (taken_up m (table_in t) n q _ h (rw (ap (λ (i : ℕ). worker_fits i n) c ∙ f, d ∙ ap (λ (w : Worker). admit (view m) w.place q) here)))
