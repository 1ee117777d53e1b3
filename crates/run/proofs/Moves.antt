-- What a step and a taking up do to the table: its length is unchanged, and the worker that replies owed the reply.
use Prim.Native.Nat.{ℕ, ◌+◌, ◌≤◌, ◌<◌}
use mathlib.Core.Bool.{true, false}
use mathlib.Core.List.{List, []}
use mathlib.Core.Path.{◌≡◌, refl, ap}
use native.Mathlib.Omega.{arith}
use lib.ListN.{length, get_or, set, length-set}
use lib.Seq.{set-get_or}
use Rattle.std.proofs.Common.{Result, Ok, Err}
use Rattle.catalogue.specs.Catalogue.{Catalogue}
use Rattle.catalogue.specs.Calls.{After, refuse, worker_fits, perform, step, take_up}
use Rattle.catalogue.specs.Steps.Decide.{decide}
use Rattle.catalogue.specs.Steps.Places.{first_place}
use Rattle.catalogue.specs.Tests.{pick}
use Rattle.catalogue.specs.Workers.{busy, busy_at, worker_at, put, bare, idle, blank}
use Rattle.catalogue.specs.declared.answers.Answer.{Answer}
use Rattle.catalogue.specs.declared.answers.Answer.TheVariants as answer
use Rattle.catalogue.specs.declared.answers.Refusal.{Refusal}
use Rattle.catalogue.specs.declared.steps.Decision.{Decision}
use Rattle.catalogue.specs.declared.steps.Decision.TheVariants.{Torn, Code, Going, Begins, Keeps, Meets, Takes, Reply}
use Rattle.catalogue.specs.declared.workers.Place.{Place}
use Rattle.catalogue.specs.declared.workers.Request.{Request}
use Rattle.catalogue.specs.declared.workers.Table.{Table}
use Rattle.catalogue.specs.declared.workers.Worker.{Worker}
use Rattle.laws.proofs.Admits.{take_up_both}
use Rattle.laws.proofs.Picks.{clash, pick_both}
use Rattle.promises.proofs.Fates.Any.{reply_small}
use Rattle.run.proofs.Owed.{one, owed, owed_set}

abbrev pub replied : Result Answer Refusal → ℕ
replied (Ok (answer.Going met)) = 0
replied (Ok (answer.Reply n)) = 1
replied (Err r) = 0

at_most_one : (p : Place) → one p ≤ 1
at_most_one p = pick_both (λ n. n ≤ 1) (busy_at p) 1 0 (λ e. omega arith) (λ e. omega arith)

pub record Moves (t : Table) (w : ℕ) (a : After) : Type 0 where
  pub counted : a.table.count ≡ t.count
  pub long : length a.table.workers ≡ length t.workers
  pub owing : (ls : List (List Request)) → w < length t.workers → w < length ls → owed a.table.workers ls + replied a.answer ≤ owed t.workers ls
  pub small : (n : ℕ) → a.answer ≡ Ok (answer.Reply n) → n ≤ 9

module _ (C : Catalogue) (t : Table) (w : ℕ) (on : busy t w ≡ true) where
  refuse_moves : (r : Refusal) → Moves t w (refuse C t r)
  refuse_moves r = record { counted = refl; long = refl; owing = λ ls h k. omega arith; small = λ n e. clash (cc) }

  -- the record of a busy worker is another
  put_owed : (x : Worker) (ls : List (List Request)) → w < length t.workers → w < length ls → owed (set t.workers w x) ls + 1 ≡ owed t.workers ls + one x.place
  put_owed x ls h k =
      let same : set ls w (get_or ls w []) ≡ ls = set-get_or ls w [] in
      let busied : one (worker_at t w).place ≡ 1 = ap (λ b. pick b 1 0) on in
      omega (arith, ap (owed (set t.workers w x)) same, owed_set t.workers ls w x (get_or ls w []) h k)

  going_moves : (C' : Catalogue) (x : Worker) (met : ℕ) → Moves t w (record { catalogue = C'; table = put t w x; answer = Ok (answer.Going met) })
  going_moves C' x met = record {
    counted = refl;
    long = length-set t.workers w x;
    owing = λ ls h k. omega (arith, put_owed x ls h k, at_most_one x.place);
    small = λ n e. clash (cc);
  }

  perform_moves : (d : Decision) → decide C (worker_at t w) ≡ d → Moves t w (perform C t w (worker_at t w) d)
  perform_moves Torn e = refuse_moves _
  perform_moves Code e = refuse_moves _
  perform_moves (Going next write) e = going_moves _ _ _
  perform_moves (Begins next write v) e = going_moves _ _ _
  perform_moves (Keeps next) e = going_moves _ _ _
  perform_moves (Meets next y) e = going_moves _ _ _
  perform_moves (Takes next) e = going_moves _ _ _
  perform_moves (Reply n write) e = record {
    counted = refl;
    long = length-set t.workers w _;
    owing = λ ls h k. omega (arith, put_owed idle ls h k);
    small = λ m q. (let s : n ≡ m = cc in omega (arith, reply_small C (worker_at t w) n write e));
  }

  pub step_moves : Moves t w (step C t w)
  unfolding step
  step_moves =
      pick_both (Moves t w) (worker_fits t.count w) _ _
      (λ e. pick_both (Moves t w) (busy t w) _ _ (λ f. perform_moves (decide C (worker_at t w)) refl) (λ f. refuse_moves _))
      (λ e. refuse_moves _)

-- taking up by an idle worker, which then owes at most one; the catalogue is only read
pub record Starts (C : Catalogue) (t : Table) (w : ℕ) (a : After) : Type 0 where
  pub kept : a.catalogue ≡ C
  pub counted : a.table.count ≡ t.count
  pub long : length a.table.workers ≡ length t.workers
  pub owing : (ls : List (List Request)) (l : List Request) → w < length t.workers → w < length ls
      → owed a.table.workers (set ls w l) + length (get_or ls w []) ≤ owed t.workers ls + (1 + length l)

module _ (C : Catalogue) (t : Table) (w : ℕ) (off : busy t w ≡ false) where
  idled : one (worker_at t w).place ≡ 0
  idled = ap (λ b. pick b 1 0) off

  refuse_starts : (r : Refusal) → Starts C t w (refuse C t r)
  refuse_starts r = record {
    kept = refl;
    counted = refl;
    long = refl;
    owing = λ ls l h k.
        omega (arith, idled, ap (λ ws. owed ws (set ls w l)) (set-get_or t.workers w blank), owed_set t.workers ls w (worker_at t w) l h k);
  }

  pub take_up_starts : (q : Request) → Starts C t w (take_up C t w q)
  take_up_starts q =
      take_up_both C t w q (Starts C t w) (λ r torn. refuse_starts r)
      (λ fits first h. record {
        kept = refl;
        counted = refl;
        long = length-set t.workers w _;
        owing = λ ls qs h j. omega (arith, idled, at_most_one (first_place q first), owed_set t.workers ls w (bare (first_place q first)) qs h j);
      })
