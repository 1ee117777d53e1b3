-- A choice to sweep: where a worker is busy it is refused, and else the machine goes on from the swept world.
use Prim.Native.Nat.{ℕ, zero, suc, ◌≤◌, ◌<◌}
use mathlib.Core.Bool.{Bool, true, false, not}
use mathlib.Core.Option.{none}
use mathlib.Core.Path.{◌≡◌, refl, sym, ap, ◌∙◌, subst}
use mathlib.Core.Logic.{inl, inr}
use native.Mathlib.Omega.{arith}
use Rattle.std.proofs.Common.{Ok, Err}
use Rattle.catalogue.specs.Tests.{pick}
use Rattle.catalogue.specs.Calls.{count_fits}
use Rattle.catalogue.specs.Choosing.{Moment}
use Rattle.catalogue.specs.Soundness.{sound}
use Rattle.catalogue.specs.Soundness
use Rattle.catalogue.specs.Sweep.{AfterSweep, swept, sweep_into, any_busy, refuse_sweep}
use Rattle.catalogue.specs.Workers.{worker_at, busy}
use Rattle.catalogue.specs.declared.answers.Refusal.{Refusal}
use Rattle.catalogue.specs.declared.answers.Refusal.TheVariants as refusal
use Rattle.catalogue.specs.declared.workers.Table.{Table}
use Rattle.laws.proofs.Picks.{clash}
use Rattle.row.proofs.Base.{same?, lt_or}
use Rattle.row.specs.Machine.World
use Rattle.row.specs.Machine.World.{World, Spot, Rest, Untried, graph}
use Rattle.row.specs.Machine.Choices.{resting, all_rest, Conf, Choice, steps, sweeps, act}
use Rattle.row.proofs.Graphs.Good.{WGood}
use Rattle.row.proofs.Events.Fine.{act_fine, rest_untried}
use Rattle.promises.proofs.Showing.Shows.{Shown}
use Rattle.promises.proofs.Showing.Tests.{neither}
use Rattle.promises.proofs.Lists.AtRest.{rest_sound}
use Rattle.promises.proofs.Sweeps.Well.{Swept, sweeps_well, sweeps_same}
use Rattle.promises.proofs.Runs.Held.{Held, busy_is}
use Rattle.promises.proofs.Runs.Telling.{Same}
use Rattle.promises.proofs.Runs.Done.{quiet, quiet_same}

-- ---- all workers rest

-- as far as the machine's workers below a number go
rest_up : (n : ℕ) (f : ℕ → Spot) → ((w : ℕ) → w < n → f w ≡ Rest) → all_rest n f ≡ true
unfolding all_rest
rest_up zero f h = refl
rest_up (suc n) f h = rw (h n (omega arith), rest_up n f (λ w l. h w (omega arith)))

pub idle_below : (t : Table) (n : ℕ) → any_busy t n ≡ false → (w : ℕ) → w < n → busy t w ≡ false
unfolding any_busy
idle_below t zero e w l = absurd (omega arith)
idle_below t (suc n) e w l =
    let z = neither (busy t n) (any_busy t n) e in
    elim (same? w n) [ inl s ↦ ap (busy t) s ∙ z.0 | inr d ↦ idle_below t n z.1 w (omega arith) ]

pub rest_of : (s : Spot) → not (resting s) ≡ false → s ≡ Rest
rest_of Rest e = refl
rest_of (World.Vert p) e = clash (cc)
rest_of (World.FindU q k l c) e = clash (cc)
rest_of (World.FindV q k l u c) e = clash (cc)
rest_of (World.LookE b k l u v p c) e = clash (cc)
rest_of (World.ConE k l u v c) e = clash (cc)
rest_of (World.Trial k l u v x h) e = clash (cc)

module _ (workers : ℕ) (m : Moment) (X : Conf) (h : Held workers m X) (most : workers ≤ 8) where
  pub all_resting : any_busy m.table workers ≡ false → (w : ℕ) → X.at w ≡ Rest
  all_resting e w =
      elim (lt_or w workers) [
        | inl l ↦
            rest_of (X.at w)
            (sym (busy_is X.world.v.used (worker_at m.table w) (X.at w) (h.shown w (omega arith)).stands) ∙ idle_below m.table workers e w l)
        | inr g ↦ h.beyond w g
      ]

  -- so no edge is on trial
  pub untried : any_busy m.table workers ≡ false → Untried X.world
  untried e = rest_untried X h.fine (all_resting e)

-- ---- the call

-- After a sweep: as `Done` for the other calls.
pub record DoneSweep (workers : ℕ) (t : Table) (X : Conf) (a : AfterSweep) : Type 0 where
  pub choice : Choice
  pub held : Held workers (record { catalogue = a.second; table = t }) (act X choice)
  pub same : Same X choice (λ w. none) (λ b. none)
  pub whole : a.answer ≡ Err refusal.Torn → ⊥

module _ (workers : ℕ) (m : Moment) (X : Conf) (h : Held workers m X) (most : workers ≤ 8) where
  refused : (r : Refusal) → (r ≡ refusal.Torn → ⊥) → DoneSweep workers m.table X (refuse_sweep m.catalogue r)
  refused r n = record {
    choice = steps 8;
    held = quiet workers m X h most;
    same = quiet_same workers m X h most (λ w. none) (λ b. none) (λ w. refl) (λ b. refl);
    whole = λ e. n (cc);
  }

  module _ (e : any_busy m.table workers ≡ false) where
    abbrev after : Swept m.catalogue
    after = sweeps_well m.catalogue X.world h.shows h.fine.good (untried workers m X h most e)

    accepted : all_rest 8 X.at ≡ true
    accepted = rest_up 8 X.at (λ w l. all_resting workers m X h most e w)

    shown_at : (w : ℕ) → w < 8 → Shown after.world.v.used (worker_at m.table w) (X.at w)
    shown_at w l = rw (all_resting workers m X h most e w) (rests (X.at w) (all_resting workers m X h most e w) (h.shown w l))
      where
        rests : (s : Spot) → s ≡ Rest → Shown X.world.v.used (worker_at m.table w) s → Shown after.world.v.used (worker_at m.table w) Rest
        rests s q p = let z : Shown X.world.v.used (worker_at m.table w) Rest = rw q at p in record { asked = z.asked; stands = z.stands }

    honest : (W : World) → sweeps after.world ≡ sweeps W → WGood W × Untried W × (graph W ≡ graph X.world)
    honest W q =
        let z : after.world ≡ W = cc in
        subst (λ (Y : World). WGood Y × Untried Y × (graph Y ≡ graph X.world)) z
        (after.good, after.untried, sweeps_same m.catalogue X.world h.shows h.fine.good (untried workers m X h most e))

    carried : DoneSweep workers m.table X (record { second = swept m.catalogue; answer = Ok tt })
    carried = record {
      choice = sweeps after.world;
      held = rw accepted (record {
        shows = after.shows;
        fine = rw accepted at (act_fine X h.fine (sweeps after.world) (λ W q g. let z = honest W q in (z.0, z.1)));
        counted = h.counted;
        eight = h.eight;
        shown = shown_at;
        beyond = h.beyond;
      });
      same = record { taken = λ w. refl; answered = λ b. refl; honest = honest };
      whole = λ q. clash (cc);
    }

  pub sweeps_done : DoneSweep workers m.table X (sweep_into m.catalogue m.catalogue m.table)
  unfolding sweep_into
  sweeps_done = by (count_fits m.table.count) (any_busy m.table m.table.count) refl (sound Soundness.sweep m.catalogue) refl
    where
      by : (a b : Bool) → any_busy m.table m.table.count ≡ b → (c : Bool) → sound Soundness.sweep m.catalogue ≡ c
          → DoneSweep workers m.table X (pick a
          (pick b (refuse_sweep m.catalogue refusal.Busy)
          (pick c (record { second = swept m.catalogue; answer = Ok tt }) (refuse_sweep m.catalogue refusal.Torn)))
          (refuse_sweep m.catalogue refusal.Worker))
      by false b e c q = refused refusal.Worker (λ z. clash (cc))
      by true true e c q = refused refusal.Busy (λ z. clash (cc))
      by true false e true q = carried (sym (ap (any_busy m.table) h.counted) ∙ e)
      by true false e false q =
          let idle : any_busy m.table workers ≡ false = sym (ap (any_busy m.table) h.counted) ∙ e in
          let z = rest_sound m.catalogue X.world h.shows h.fine.good Soundness.sweep (λ r. untried workers m X h most idle) in
          clash (cc)
