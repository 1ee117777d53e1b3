-- A trial that runs alone and is replied 1 has made just the steps of its tally, and the last.
use Prim.Native.Nat.{ℕ, zero, suc, ◌+◌, ◌*◌, ◌≤◌, ◌<◌}
use mathlib.Core.Bool.{true, false, not}
use mathlib.Core.List.{List}
use mathlib.Core.Logic.{inl, inr}
use mathlib.Core.Path.{◌≡◌, refl, sym, ap, ◌∙◌, subst}
use native.Mathlib.Omega.{arith}
use borrow.Author.Tests.{eq-eqb}
use lib.ListN.{length, replicate}
use Rattle.std.proofs.Common.{Ok}
use Rattle.catalogue.specs.Calls.{step}
use Rattle.catalogue.specs.Live.{edges_of}
use Rattle.catalogue.specs.Choosing.{steps, Moment, choose, after}
use Rattle.catalogue.specs.Workers.{worker_at}
use Rattle.catalogue.specs.declared.answers.Answer.TheVariants.{Reply}
use Rattle.catalogue.specs.declared.workers.Ends.{Ends}
use Rattle.laws.proofs.Picks.{clash}
use Rattle.row.proofs.Base.{upd_at, upd_other, same?}
use Rattle.row.specs.Machine.Choices
use Rattle.row.specs.Machine.World
use Rattle.row.specs.Machine.World.{World, Hunt, hunt_from}
use Rattle.row.specs.Machine.Moves.{move}
use Rattle.row.specs.Machine.Choices.{resting, Conf, act}
use Rattle.row.proofs.Steps.Spots as spots
use Rattle.promises.specs.Moments.{at}
use Rattle.promises.specs.Bounds.{step_replies, Unanswered, also, taken_by, edges_taken, TrialAlone}
use Rattle.promises.proofs.Showing.Shows.{Stands, Hunted, at_trial}
use Rattle.promises.proofs.Showing.Pools.{vertices_in_pool, edges_in_pool}
use Rattle.promises.proofs.Showing.Weighing.{weigh, weigh_none, weigh_same, total_two}
use Rattle.promises.proofs.Lists.Meets.{edges_walk}
use Rattle.promises.proofs.Runs.Held.{Held, busy_is}
use Rattle.promises.proofs.Runs.Stepping.{replied, Carried}
use Rattle.promises.proofs.Runs.Course.{held_at}
use Rattle.promises.proofs.Bounds.OwnStep.{own_step, silent}
use Rattle.promises.proofs.Bounds.Costs.{cost}
use Rattle.promises.proofs.Bounds.Tally.{Tally, counts, ends_closed}
use Rattle.promises.proofs.Bounds.Inserting.{inserts}

-- nothing is taken yet
fresh_tally : (W : World) (v : ℕ) → Tally W v 0 (hunt_from v)
fresh_tally W v = record {
  plain = λ p y m. elim (same? y v) [ inl q ↦ rw q p | inr d ↦ clash (cc (upd_other (λ x. false) v true y d)) ];
  enters = tt;
  spent = sym (weigh_none (cost W) 256);
}

module _ (workers : ℕ) (most : workers ≤ 8) (w : ℕ) (low : w < workers) (ends : Ends) (e : ℕ) where
  -- w is on trial, after i steps
  record Trying (i : ℕ) (m : Moment) : Type 0 where
    conf : Conf
    held : Held workers m conf
    hunt : Hunt
    stands : conf.at w ≡ at_trial ends e hunt
    tally : Tally conf.world ends.v i hunt

  module _ (i : ℕ) (m : Moment) (t : Trying i m) where
    abbrev W : World
    W = t.conf.world

    hunted : Hunted W.v.used (worker_at m.table w).reach t.hunt
    hunted =
        let s : Stands W.v.used (worker_at m.table w) (at_trial ends e t.hunt) = rw t.stands at (t.held.shown w (omega arith)).stands in
        s.1

    ok : spots.Ok W (at_trial ends e t.hunt)
    ok = rw t.stands at (t.held.fine.ok w)

    acts : Carried workers t.conf w (step m.catalogue m.table w)
    acts =
        own_step workers m t.conf t.held most w low
        (busy_is W.v.used (worker_at m.table w) (t.conf.at w) (t.held.shown w (omega arith)).stands ∙ ap (λ s. not (resting s)) t.stands)

    -- what the machine answers
    answers : (move W (at_trial ends e t.hunt)).answer ≡ (move W (t.conf.at w)).answer
    answers = ap (λ s. (move W s).answer) (sym t.stands)

    goes_on : step_replies w m ≡ false → Trying (suc i) (choose m (steps w)).moment
    goes_on q =
        let C = m.catalogue in
        let c = counts W t.held.fine.good (vertices_in_pool C W t.held.shows) (edges_in_pool C W t.held.shows) ends.pair.k ends.pair.l ends.u ends.v e i t.hunt
        hunted.searched ok.2.place t.tally (answers ∙ silent acts q) in
        let n = ap (move W) t.stands ∙ c.is in
        record {
          conf = act t.conf (Choices.steps w);
          held = acts.held;
          hunt = c.hunt;
          stands = upd_at t.conf.at w (move W (t.conf.at w)).spot w refl ∙ ap (λ (o : World.Next). o.spot) n;
          tally = subst (λ (Y : World). Tally Y ends.v (suc i) c.hunt) (sym (ap (λ (o : World.Next). o.world) n)) c.tally;
        }

    -- how many edge nodes there are in the list of x
    abbrev listed : ℕ → ℕ
    listed x = length (edges_of m.catalogue x)

    same_cost : weigh (cost W) t.hunt.taken 256 ≡ weigh (λ x. 2 + listed x) t.hunt.taken 256
    same_cost =
        weigh_same (cost W) (λ x. 2 + listed x) t.hunt.taken 256 (λ x b p.
        let s = hunted.searched.met_series x (hunted.searched.taken_met x p) in
        ap (λ (es : List ℕ). 2 + length es) (sym (edges_walk m.catalogue W t.held.shows t.held.fine.good x s.low s.high)))

    replied_one : (step m.catalogue m.table w).answer ≡ Ok (Reply 1) → suc i ≡ 2 * length (taken_by m w) + edges_taken m w + 1
    replied_one q =
        let c = ends_closed W ends.pair.k ends.pair.l ends.u ends.v e t.hunt (answers ∙ (sym acts.same_reply ∙ ap replied q)) in
        let spent : i + 0 ≡ weigh (cost W) t.hunt.taken 256 = rw c at t.tally.spent in
        let all : i + 0 ≡ 2 * length (taken_by m w) + edges_taken m w =
        spent ∙ (same_cost ∙ (sym (hunted.queued.weighed (λ x. 2 + listed x)) ∙ total_two listed (taken_by m w))) in
        omega (arith, all)

  counted : (n i : ℕ) (m : Moment) → Trying i m → Unanswered w m (replicate n (steps w))
      → (let last : Moment = after m (replicate n (steps w)) in
      (step last.catalogue last.table w).answer ≡ Ok (Reply 1) → suc (i + n) ≡ 2 * length (taken_by last w) + edges_taken last w + 1)
  unfolding after
  counted zero i m t u = λ r. (let same : suc (i + 0) ≡ suc i = omega arith in same ∙ replied_one i m t r)
  counted (suc n) i m t (also q u) = λ r.
      (let same : suc (i + suc n) ≡ suc (suc i + n) = omega arith in
      same ∙ counted n (suc i) (choose m (steps w)).moment (goes_on i m t (q (eq-eqb w w refl))) u r)

pub trial_alone : TrialAlone
trial_alone workers choices g w i n u r =
    let z = held_at workers choices g in
    let b = inserts workers w g.most (at workers choices) z.0 z.1 i in
    let t : Trying workers g.most w b.low b.ends b.e 0 (choose (at workers choices) (steps w)).moment =
    record { conf = b.conf; held = b.held; hunt = hunt_from b.ends.v; stands = b.trial; tally = fresh_tally b.conf.world b.ends.v } in
    let same : suc n ≡ suc (0 + n) = omega arith in
    same ∙ counted workers g.most w b.low b.ends b.e n 0 (choose (at workers choices) (steps w)).moment t u r
