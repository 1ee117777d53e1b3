-- One record read and stored back is the call on the whole table: the result of each way out, in any table
-- that has the record.
use Prim.Native.Nat.{ℕ, zero, suc, ◌<◌}
use mathlib.Core.Bool.{Bool, true, false, true≢false}
use mathlib.Core.List.{List, [], ◌∷◌, map}
use mathlib.Core.Path.{◌≡◌, refl, sym, ◌∙◌, ap, subst}
use native.Mathlib.Omega.{arith}
use lib.ListN.{get_or, set, get_or-map}
use lib.Seq.{set-get_or}
use Rattle.std.proofs.Common.{Result, Ok, Err}
use Rattle.catalogue.specs.Tests.{pick}
use Rattle.catalogue.specs.Workers.{blank, worker_at, put}
use Rattle.catalogue.specs.Lent as lent
use Rattle.catalogue.specs.Steps.Decide.{stepped}
use Rattle.catalogue.specs.declared.steps.Decision.{Decision}
use Rattle.catalogue.specs.declared.steps.Decision.TheVariants.{Torn, Code, Going, Begins, Keeps, Meets, Takes, Reply}
use Rattle.catalogue.specs.declared.answers.Answer.{Answer}
use Rattle.catalogue.specs.declared.answers.Outcome.{Outcome}
use Rattle.catalogue.specs.declared.answers.Refusal.{Refusal}
use Rattle.catalogue.specs.declared.workers.Table.{Table}
use Rattle.catalogue.specs.declared.workers.Worker.{Worker}
use Rattle.border.specs.Kept.{prev_in, edge_place_in, finding_place_in, place_in, worker_in, table_in, record_of, put_record, empty, record_at, slot}
use Rattle.border.specs.Packing.{packed_answer}
use Rattle.border.specs.declared.kept.Kept.{Kept}
use Rattle.border.specs.declared.kept.Record.{Record}
use Rattle.border.proofs.Places.{worker_back}
use Rattle.host.specs.Promised.{refuses, left_of, Leaves}
use Rattle.host.specs.Moves.{refused, moved, settled}
use Rattle.host.specs.declared.one.Moved.{Moved}

-- ---- the record in its table

map_set : {A B : Type 0} (f : A → B) (xs : List A) (n : ℕ) (y : A) → map f (set xs n y) ≡ set (map f xs) n (f y)
map_set f [] n y = refl
map_set f (x ∷ xs) zero y = refl
map_set f (x ∷ xs) (suc n) y = ap (λ zs. f x ∷ zs) (map_set f xs n y)

-- a member written and read back; beyond the end neither list has one
set_read : {A B : Type 0} (f : A → B) (g : B → A) (d : B) (xs : List A) (n : ℕ) (y : B) → set xs n (g y) ≡ set xs n (g (get_or (set (map f xs) n y) n d))
set_read f g d [] n y = refl
set_read f g d (x ∷ xs) zero y = refl
set_read f g d (x ∷ xs) (suc n) y = ap (λ zs. x ∷ zs) (set_read f g d xs n y)

module _ (t : Kept) (n : ℕ) where
  -- an unchanged record keeps the table unchanged
  pub same_kept : put_record t n (record_at t n) ≡ t
  same_kept = ap (λ (rs : List Record). record { count = t.count; records = rs }) (set-get_or t.records n empty)

  pub worker_there : worker_in (record_at t n) ≡ worker_at (table_in t) n
  unfolding prev_in edge_place_in finding_place_in place_in
  worker_there = sym (get_or-map worker_in t.records n empty)

  pub worker_put : (w : Worker) → table_in (put_record t n (record_of w)) ≡ put (table_in t) n w
  worker_put w =
      ap (λ (ws : List Worker). record { count = t.count; workers = ws })
      (map_set worker_in t.records n (record_of w) ∙ ap (set (map worker_in t.records) n) (worker_back w))

  -- the record of the worker that was put there
  record_put : (w : Worker) → put_record t n (record_of w) ≡ put_record t n (record_of (worker_at (put (table_in t) n w) n))
  record_put w = ap (λ (rs : List Record). record { count = t.count; records = rs }) (set_read worker_in record_of blank t.records n w)

  -- an answer that is no refusal writes it down
  pub left_put : (w : Worker) (a : Result Answer Refusal) → refuses a ≡ false → put_record t n (record_of w) ≡ left_of t n (record { table = put (table_in t) n w; answer = a })
  left_put w a kept = record_put w ∙ ap (λ (b : Bool). pick b t (put_record t n (record_of (worker_at (put (table_in t) n w) n)))) (sym kept)

pub slot_is : (n : ℕ) → n < 8 → slot n ≡ n
slot_is n h = omega (arith, h)

-- ---- what is stored back, for an outcome of the call on the table

pub record Stores (t : Kept) (n : ℕ) (x : Moved) (o : Outcome) : Type 0 where
  pub tells : x.told ≡ packed_answer o.answer
  pub leaves : Leaves t n o (put_record t (slot n) x.kept)

pub leaves : (t : Kept) (n : ℕ) (x y : Moved) (o p : Outcome) → x ≡ y → Stores t n y o → o ≡ p → Leaves t n p (put_record t (slot n) x.kept)
leaves t n x y o p e h s = subst (λ (o : Outcome). Leaves t n o (put_record t (slot n) x.kept)) s (subst (λ (x : Moved). Leaves t n o (put_record t (slot n) x.kept)) (sym e) h.leaves)

put_back : (t : Table) (n : ℕ) → put t n (worker_at t n) ≡ t
put_back t n = ap (λ (ws : List Worker). record { count = t.count; workers = ws }) (set-get_or t.workers n blank)

module _ (t : Kept) (n : ℕ) (r : Record) (there : record_at t (slot n) ≡ r) where
  same_there : put_record t (slot n) r ≡ t
  same_there = ap (put_record t (slot n)) (sym there) ∙ same_kept t (slot n)

  pub stores_refused : (why : Refusal) → Stores t n (refused r why) (lent.refused (table_in t) why)
  unfolding refused
  stores_refused why = record { tells = refl; leaves = (same_there, ap table_in same_there) }

  module _ (below : n < 8) where
    pub worker_is : worker_in r ≡ worker_at (table_in t) n
    worker_is = ap worker_in (sym there) ∙ worker_there t (slot n) ∙ ap (worker_at (table_in t)) (slot_is n below)

    pub stores_moved : (w : Worker) (a : Answer) → Stores t n (moved w a) (record { table = put (table_in t) n w; answer = Ok a })
    unfolding moved
    stores_moved w a = record {
      tells = refl;
      leaves = (
        ap (λ (i : ℕ). put_record t i (record_of w)) (slot_is n below) ∙ left_put t n w (Ok a) refl,
        worker_put t (slot n) w ∙ ap (λ (i : ℕ). put (table_in t) i w) (slot_is n below),
      );
    }

    -- a refusal has left the worker as it was
    pub stores_settled : (w : Worker) (a : Result Answer Refusal) → (refuses a ≡ true → w ≡ worker_at (table_in t) n) → Stores t n (settled r w a) (record { table = put (table_in t) n w; answer = a })
    stores_settled w (Ok a) same = stores_moved w a
    stores_settled w (Err why) same =
        let h = stores_refused why in
        record { tells = h.tells; leaves = (h.leaves.0, h.leaves.1 ∙ sym (ap (put (table_in t) n) (same refl) ∙ put_back (table_in t) n)) }

-- the record of a decision that refuses
pub refused_stays : (w : Worker) (d : Decision) → refuses (stepped w d).answer ≡ true → (stepped w d).worker ≡ w
refused_stays w Torn h = refl
refused_stays w Code h = refl
refused_stays w (Going next write) h = absurd (true≢false (sym h))
refused_stays w (Begins next write v) h = absurd (true≢false (sym h))
refused_stays w (Keeps next) h = absurd (true≢false (sym h))
refused_stays w (Meets next y) h = absurd (true≢false (sym h))
refused_stays w (Takes next) h = absurd (true≢false (sym h))
refused_stays w (Reply number write) h = absurd (true≢false (sym h))
