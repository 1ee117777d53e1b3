-- What holds between two choices: the catalogue shows a good world, and each worker's record shows its spot there.
use Prim.Native.Nat.{ℕ, ◌≤◌, ◌<◌}
use mathlib.Core.Bool.{true, false, not}
use mathlib.Core.Path.{◌≡◌, refl, ◌∙◌}
use native.Mathlib.Omega.{arith}
use lib.ListN.{length, length-set}
use lib.Seq.{get_or-set_same, get_or-set_other}
use Rattle.catalogue.specs.Choosing.{Moment}
use Rattle.catalogue.specs.Workers.{blank, worker_at, put, busy_at}
use Rattle.catalogue.specs.declared.workers.Table.{Table}
use Rattle.catalogue.specs.declared.workers.Worker.{Worker}
use Rattle.row.specs.Machine.Vertices.{Idle, AddV, RemV, ConV}
use Rattle.row.specs.Machine.World.{Opened, closed, opened, adds, rems, cons, Spot, Rest, Vert, FindU, FindV, LookE, ConE, Trial}
use Rattle.row.specs.Machine.Choices.{Conf, resting}
use Rattle.row.proofs.Events.Fine.{Fine}
use Rattle.promises.proofs.Showing.Shows.{Shows, Shown, Stands, Series, Open, trial_place, between}

pub record Held (workers : ℕ) (m : Moment) (X : Conf) : Type 0 where
  pub shows : Shows m.catalogue X.world
  pub fine : Fine X
  pub counted : m.table.count ≡ workers
  pub eight : length m.table.workers ≡ 8
  pub shown : (w : ℕ) → w < 8 → Shown X.world.v.used (worker_at m.table w) (X.at w)
  pub beyond : (w : ℕ) → workers ≤ w → X.at w ≡ Rest

-- ---- with more vertices handed out a record is still shown

module _ (used used' : ℕ) (h : used ≤ used') where
  series_up : {x : ℕ} → Series used x → Series used' x
  series_up s = let l = s.high in record { low = s.low; high = omega arith }

  open_up : (o : Opened) → Open used o → Open used' o
  open_up closed p = tt
  open_up (opened x c) p = series_up p

  stands_up : (w : Worker) (s : Spot) → Stands used w s → Stands used' w s
  stands_up w Rest p = p
  stands_up w (Vert Idle) p = p
  stands_up w (Vert (AddV k q c)) p = p
  stands_up w (Vert (RemV k q c)) p = p
  stands_up w (Vert (ConV k c)) p = p
  stands_up w (FindU adds k l c) p = p
  stands_up w (FindU rems k l c) p = p
  stands_up w (FindU cons k l c) p = p
  stands_up w (FindV adds k l u c) p = p
  stands_up w (FindV rems k l u c) p = p
  stands_up w (FindV cons k l u c) p = p
  stands_up w (LookE true k l u v q c) p = p
  stands_up w (LookE false k l u v q c) p = p
  stands_up w (ConE k l u v c) p = p
  stands_up w (Trial k l u v e z) p =
      let r = p.1 in (
        p.0,
        record {
          queued = r.queued;
          searched = let d = r.searched in record {
            met_series = λ x m. series_up (d.met_series x m);
            taken_met = d.taken_met;
            todo_met = d.todo_met;
            todo_new = d.todo_new;
            todo_once = d.todo_once;
          };
          open_series = open_up z.stand r.open_series;
        },
      )

  pub shown_up : (w : Worker) (s : Spot) → Shown used w s → Shown used' w s
  shown_up w s p = record { asked = p.asked; stands = stands_up w s p.stands }

-- ---- a worker is busy exactly where its spot is not at rest

pub busy_is : (used : ℕ) (w : Worker) (s : Spot) → Stands used w s → busy_at w.place ≡ not (resting s)
busy_is used w Rest p = rw p refl
busy_is used w (Vert Idle) p = absurd p
busy_is used w (Vert (AddV k q c)) p = rw p refl
busy_is used w (Vert (RemV k q c)) p = rw p refl
busy_is used w (Vert (ConV k c)) p = rw p refl
busy_is used w (FindU adds k l c) p = rw p refl
busy_is used w (FindU rems k l c) p = rw p refl
busy_is used w (FindU cons k l c) p = rw p refl
busy_is used w (FindV adds k l u c) p = rw p refl
busy_is used w (FindV rems k l u c) p = rw p refl
busy_is used w (FindV cons k l u c) p = rw p refl
busy_is used w (LookE true k l u v q c) p = rw p.0 refl
busy_is used w (LookE false k l u v q c) p = rw p.0 refl
busy_is used w (ConE k l u v c) p = rw p refl
busy_is used w (Trial k l u v e h) p = rw p.0 (by h.stand)
  where
    by : (o : Opened) → busy_at (trial_place (between k l u v) e o) ≡ true
    by closed = refl
    by (opened x c) = refl

-- ---- a table with one other record

module _ (t : Table) (n : ℕ) (r : Worker) (eight : length t.workers ≡ 8) (h : n < 8) where
  pub put_there : (w : ℕ) → w ≡ n → worker_at (put t n r) w ≡ r
  put_there w e = rw e (get_or-set_same t.workers n r blank (omega arith))

  pub put_else : (w : ℕ) → (w ≡ n → ⊥) → worker_at (put t n r) w ≡ worker_at t w
  put_else w d = get_or-set_other t.workers n w r blank d

  pub put_eight : length (put t n r).workers ≡ 8
  put_eight = length-set t.workers n r ∙ eight
