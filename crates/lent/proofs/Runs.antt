-- Every choice keeps a host's memory that of the catalogue: so a run on lent memory is the run of the definitions.
use Prim.Native.Nat.{ℕ}
use mathlib.Core.Bool.{Bool, true, false}
use mathlib.Core.List.{List, [], ◌∷◌}
use mathlib.Core.Path.{◌≡◌, refl, sym, ap, ap₂, ◌∙◌, subst}
use Rattle.std.proofs.Common.{Result, Ok, Err}
use Rattle.catalogue.specs.Tests.{pick}
use Rattle.catalogue.specs.Catalogue.{Catalogue, fresh}
use Rattle.catalogue.specs.Workers.{idle}
use Rattle.catalogue.specs.Calls.{After, count_fits, take_up, step}
use Rattle.catalogue.specs.Soundness.{sound, sweep}
use Rattle.catalogue.specs.Sweep.{AfterSweep, any_busy, swept, refuse_sweep, sweep_into}
use Rattle.catalogue.specs.Lent.{Memory, LentCall, view, lay, sized, after_call, after_sweep, lent_fresh, lent_take_up, lent_step, lent_sweep}
use Rattle.catalogue.specs.Choosing.{Choice, takes, steps, sweeps, Moment, start, Chosen, chosen_call, chosen_sweep, choose, telling, after}
use Rattle.catalogue.specs.declared.answers.Refusal.{Refusal}
use Rattle.catalogue.specs.declared.answers.Refusal.TheVariants as refusal
use Rattle.catalogue.specs.declared.workers.Place.TheVariants.{Idle}
use Rattle.catalogue.specs.declared.workers.Table.{Table}
use Rattle.lent.specs.Hosting.{LentMoment, LentChosen, lent_start, lent_called, lent_swept, lent_choose, lent_telling, lent_after}
use Rattle.lent.specs.SameRuns.{Holds, LentRuns}
use Rattle.memory.proofs.Agrees.{agree_laid}
use Rattle.lent.proofs.Entries.{all_replicate}
use Rattle.lent.proofs.Ranges.{InRange, TableInRange}
use Rattle.lent.proofs.Steps.Deciding.{bare_in_range}
use Rattle.lent.proofs.Calls.{step_alike, take_up_alike, sized_lay, lent_step_laid, lent_take_up_laid}
use Rattle.lent.proofs.Sweeps.{lent_sweep_laid}

-- what holds between two choices
record Held (h : LentMoment) (m : Moment) : Type 0 where
  holds : Holds h m
  second : sized h.second ≡ true
  range : TableInRange m.table

record Kept (x : LentChosen) (y : Chosen) : Type 0 where
  held : Held x.moment y.moment
  tells : x.tells ≡ y.tells

-- A sweep is done or refused whatever it writes into, and writes only where it is done.
abbrev answered : Catalogue → Result (Unit {0}) Refusal → Catalogue → AfterSweep
answered C (Ok u) E = record { second = swept C; answer = Ok tt }
answered C (Err why) E = refuse_sweep E why

sweep_answered : (C E : Catalogue) (t : Table) → sweep_into C E t ≡ answered C (sweep_into C C t).answer E
unfolding sweep_into
sweep_answered C E t = by (count_fits t.count) (any_busy t t.count) (sound sweep C)
  where
    into : Bool → Bool → Bool → Catalogue → AfterSweep
    into a b c F =
        pick a (pick b (refuse_sweep F refusal.Busy) (pick c (record { second = swept C; answer = Ok tt }) (refuse_sweep F refusal.Torn)))
        (refuse_sweep F refusal.Worker)

    by : (a b c : Bool) → into a b c E ≡ answered C (into a b c C).answer E
    by true true c = refl
    by true false true = refl
    by true false false = refl
    by false b c = refl

module _ (h : LentMoment) (m : Moment) (k : Held h m) where
  called_kept : (call : LentCall) (a : After) → call ≡ after_call a → TableInRange a.table → Kept (lent_called h.second call) (chosen_call a)
  called_kept call a e r =
      rw e (record { held = record { holds = record { memory = refl; table = refl }; second = k.second; range = r }; tells = refl })

  swept_kept : Kept (lent_choose h sweeps) (choose m sweeps)
  swept_kept =
      subst (λ x. Kept (lent_swept h x) (choose m sweeps)) (sym written)
      (subst (λ y. Kept (lent_swept h (after_sweep (answered C tells E))) (chosen_sweep m.table y)) (sym (sweep_answered C C m.table)) (by tells))
    where
      C : Catalogue
      C = m.catalogue

      E : Catalogue
      E = view h.second

      tells : Result (Unit {0}) Refusal
      tells = (sweep_into C C m.table).answer

      written : lent_sweep h.memory h.second h.table ≡ after_sweep (answered C tells E)
      written =
          rw (k.holds.memory, k.holds.table) (lent_sweep_laid C h.second m.table k.second)
          ∙ ap after_sweep (sweep_answered C E m.table)

      by : (s : Result (Unit {0}) Refusal) → Kept (lent_swept h (after_sweep (answered C s E))) (chosen_sweep m.table (answered C s C))
      by (Ok u) = record {
        held = record {
          holds = record { memory = refl; table = k.holds.table };
          second = rw k.holds.memory (sized_lay C);
          range = k.range;
        };
        tells = refl;
      }
      by (Err why) = record {
        held = record {
          holds = record { memory = k.holds.memory; table = k.holds.table };
          second = sized_lay E;
          range = k.range;
        };
        tells = refl;
      }

  choice_kept : (c : Choice) → Kept (lent_choose h c) (choose m c)
  choice_kept (takes w q) =
      called_kept (lent_take_up h.memory h.table w q) (take_up m.catalogue m.table w q)
      (rw (k.holds.memory, k.holds.table) (lent_take_up_laid m.catalogue m.table k.range w q))
      (take_up_alike (agree_laid m.catalogue) m.table k.range w q).range
  choice_kept (steps w) =
      called_kept (lent_step h.memory h.table w) (step m.catalogue m.table w)
      (rw (k.holds.memory, k.holds.table) (lent_step_laid m.catalogue m.table k.range w))
      (step_alike (agree_laid m.catalogue) m.table k.range w).range
  choice_kept sweeps = swept_kept

-- all choices, one after the other
held_after : (h : LentMoment) (m : Moment) → Held h m → (choices : List Choice) → Held (lent_after h choices) (after m choices)
unfolding lent_after after
held_after h m k [] = k
held_after h m k (c ∷ cs) = held_after (lent_choose h c).moment (choose m c).moment (choice_kept h m k c).held cs

told_same : (h : LentMoment) (m : Moment) → Held h m → (choices : List Choice) → lent_telling h choices ≡ telling m choices
unfolding lent_telling telling
told_same h m k [] = refl
told_same h m k (c ∷ cs) =
    let kept = choice_kept h m k c in
    ap₂ ◌∷◌ kept.tells (told_same (lent_choose h c).moment (choose m c).moment kept.held cs)

-- the fresh catalogue, with all workers idle
made_fresh : (m : Memory) → sized m ≡ true → lent_fresh m ≡ record { memory = lay fresh; answer = Ok tt }
unfolding lent_fresh
made_fresh m e = rw e refl

held_start : (m n : Memory) → sized m ≡ true → sized n ≡ true → (workers : ℕ) → Held (lent_start m n workers) (start workers)
held_start m n e f workers = record {
  holds = record { memory = ap (λ a. a.memory) (made_fresh m e); table = refl };
  second = f;
  range = all_replicate InRange 8 idle (bare_in_range Idle tt);
}

pub lent_runs : LentRuns
lent_runs m n e f workers choices =
    let k = held_start m n e f workers in
    record {
      made = ap (λ a. a.answer) (made_fresh m e);
      holds = (held_after (lent_start m n workers) (start workers) k choices).holds;
      told = told_same (lent_start m n workers) (start workers) k choices;
    }

-- so the table of every run is one that the laws of `Calls` ask for
pub run_in_range : (workers : ℕ) (choices : List Choice) → TableInRange (after (start workers) choices).table
run_in_range workers choices =
    let k = held_start (lay fresh) (lay fresh) (sized_lay fresh) (sized_lay fresh) workers in
    (held_after (lent_start (lay fresh) (lay fresh) workers) (start workers) k choices).range
