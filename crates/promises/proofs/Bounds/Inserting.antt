-- The step that inserts an edge: the machine's worker begins its trial, with v alone to do.
use Prim.Native.Nat.{ℕ, ◌≤◌, ◌<◌}
use mathlib.Core.Bool.{Bool, true, false, cond, not}
use mathlib.Core.Logic.{inl, inr}
use mathlib.Core.Path.{◌≡◌, refl, ap, ◌∙◌}
use native.Mathlib.Omega.{arith}
use lib.Dec.{leb}
use lib.IntN.{ℤ}
use lib.ListN.{get_or-eq_default}
use Rattle.catalogue.specs.Tests.{eq_z}
use Rattle.catalogue.specs.Choosing.{Moment, choose, steps}
use Rattle.catalogue.specs.Workers.{blank, worker_at, busy_at, busy}
use Rattle.catalogue.specs.declared.workers.Place.TheVariants as place
use Rattle.catalogue.specs.declared.workers.Worker.{Worker}
use Rattle.laws.proofs.Picks.{clash}
use Rattle.row.proofs.Base.{upd_at, lt_or}
use Rattle.row.specs.Lists.Edges
use Rattle.row.specs.Lists.Edges.{einsert}
use Rattle.row.specs.Machine.Choices
use Rattle.row.specs.Machine.Choices.{resting, Conf, act}
use Rattle.row.specs.Machine.World.{World, with_e, hunt_from, Spot, LookE, Trial, goes, says, is_added}
use Rattle.row.specs.Machine.Moves.{ESeen, e_dead, e_again, e_passes, e_marks, e_onward, e_settle, elook, look_e, move}
use Rattle.promises.specs.Moments.{at}
use Rattle.promises.specs.Bounds.{Inserts, TrialBound}
use Rattle.promises.proofs.Showing.Shows.{Stands, between, at_look, at_trial}
use Rattle.promises.proofs.Runs.Held.{Held, busy_is}
use Rattle.promises.proofs.Runs.Course.{held_at}
use Rattle.promises.proofs.Bounds.OwnStep.{own_step}
use Rattle.promises.proofs.Bounds.Calls.{from_first}
use Rattle.catalogue.specs.declared.workers.Ends.{Ends}
use Rattle.promises.proofs.Outside.Spots.{adds_spot}

module _ (k l : ℤ) (u v : ℕ) where
  -- a worker that is on trial after its step has just begun
  tried : (W : World) (used : ℕ) (r : Worker) (e : ℕ) → r.place ≡ place.Trial (between k l u v) e → (q : Edges.Prev) (c : ℕ)
      → Stands used r (move W (LookE true k l u v q c)).spot → (move W (LookE true k l u v q c)).spot ≡ Trial k l u v W.e.used (hunt_from v)
  tried W used r e z q c = by (elook W l u v q c)
    where
      settled : (a b d : Bool)
          → Stands used r (cond a (cond b (says W 4) (says W 7)) (cond d (says W 9) (goes (with_e W (einsert W.e u v l q)) (Trial k l u v W.e.used (hunt_from v))))).spot
          → (cond a (cond b (says W 4) (says W 7)) (cond d (says W 9) (goes (with_e W (einsert W.e u v l q)) (Trial k l u v W.e.used (hunt_from v))))).spot
          ≡ Trial k l u v W.e.used (hunt_from v)
      settled true true d t = clash (cc)
      settled true false d t = clash (cc)
      settled false b true t = clash (cc)
      settled false b false t = refl

      by : (seen : ESeen) → Stands used r (look_e W true k l u v q c seen).spot → (look_e W true k l u v q c seen).spot ≡ Trial k l u v W.e.used (hunt_from v)
      by e_dead t = clash (cc)
      by e_again t = clash (cc t.0)
      by e_passes t = clash (cc t.0)
      by e_marks t = clash (cc t.0)
      by e_onward t = clash (cc t.0)
      by e_settle t = settled (eq_z (W.e.key c) l) (is_added (W.e.tag c)) (leb 2048 W.e.used) t

-- what is held after an insertion
pub record Begun (workers w : ℕ) (m : Moment) : Type 0 where
  pub low : w < workers
  pub conf : Conf
  pub held : Held workers m conf
  pub ends : Ends
  pub e : ℕ
  pub trial : conf.at w ≡ at_trial ends e (hunt_from ends.v)

module _ (workers w : ℕ) (most : workers ≤ 8) (m : Moment) (X : Conf) (h : Held workers m X) where
  -- beyond the table no worker is busy
  below : busy m.table w ≡ true → w < workers
  below b =
      elim (lt_or w workers) [
        | inl low ↦ low
        | inr far ↦
            elim (lt_or w 8) [
              | inl few ↦
                  clash (cc (busy_is X.world.v.used (worker_at m.table w) (X.at w) (h.shown w few).stands, ap (λ s. not (resting s)) (h.beyond w far)))
              | inr many ↦ clash (cc (ap (λ (r : Worker). busy_at r.place) (get_or-eq_default m.table.workers blank {n = w} (rw h.eight many))))
            ]
      ]

  pub inserts : Inserts w m → Begun workers w (choose m (steps w)).moment
  inserts i =
      let b : busy m.table w ≡ true = ap busy_at i.before in
      let low : w < workers = below b in
      let n = i.ends in
      let s = adds_spot X.world.v.used (worker_at m.table w) (X.at w) (h.shown w (omega arith)).stands n i.p i.c i.before in
      let o = own_step workers m X h most w low b in
      let Y : Conf = act X (Choices.steps w) in
      let from : Spot = at_look true n s.behind i.c in
      let e : Y.at w ≡ (move X.world from).spot =
      upd_at X.at w (move X.world (X.at w)).spot w refl ∙ ap (λ z. (move X.world z).spot) s.is in
      let r : Worker = worker_at (choose m (steps w)).moment.table w in
      let t : Stands Y.world.v.used r (move X.world from).spot = rw e at (o.held.shown w (omega arith)).stands in
      record {
        low = low;
        conf = Y;
        held = o.held;
        ends = n;
        e = X.world.e.used;
        trial = e ∙ tried n.pair.k n.pair.l n.u n.v X.world Y.world.v.used r i.e i.tried s.behind i.c t;
      }

pub trial_bound : TrialBound
trial_bound workers choices g w i =
    let z = held_at workers choices g in
    let b = inserts workers w g.most (at workers choices) z.0 z.1 i in
    from_first workers w 2555 g.most (choose (at workers choices) (steps w)).moment b.conf b.held (rw b.trial (record { limited = refl; enters = tt; begun = omega arith }))
