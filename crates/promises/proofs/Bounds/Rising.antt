-- A measure that never falls by others' choices, rises with each own step that is not replied to,
-- and is bounded, bounds these steps.
use Prim.Native.Nat.{ℕ, ◌+◌, ◌≤◌, ◌<◌}
use mathlib.Core.Bool.{Bool, true, false, not}
use mathlib.Core.List.{List, [], ◌∷◌}
use mathlib.Core.Logic.{inl, inr}
use mathlib.Core.Path.{◌≡◌, refl, ap, ◌∙◌}
use native.Mathlib.Omega.{arith}
use borrow.Author.Tests.{eqb-true}
use Rattle.catalogue.specs.Tests.{pick, upd}
use Rattle.catalogue.specs.Choosing.{Choice, takes, steps, sweeps, Moment, choose}
use Rattle.catalogue.specs.Workers.{worker_at, busy}
use Rattle.laws.proofs.Picks.{clash}
use Rattle.row.proofs.Base.{lt_or, upd_at}
use Rattle.row.specs.Machine.Choices
use Rattle.row.specs.Machine.Moves.{move}
use Rattle.row.specs.Machine.Choices.{resting, Conf, act}
use Rattle.promises.specs.Moments.{All, each, Keyed}
use Rattle.promises.specs.Bounds.{lets, own_steps, step_replies, Unanswered, also}
use Rattle.promises.proofs.Showing.Shows.{Stands}
use Rattle.promises.proofs.Showing.Pools.{vertices_in_pool, edges_in_pool}
use Rattle.promises.proofs.Runs.Held.{Held, busy_is}
use Rattle.promises.proofs.Runs.Sweeping.{rest_of}
use Rattle.promises.proofs.Bounds.Far.{far, limit, EnteredSpot}
use Rattle.promises.proofs.Bounds.Kept.{far_kept}
use Rattle.promises.proofs.Bounds.Forward.{far_most, goes_further}
use Rattle.promises.proofs.Bounds.OwnStep.{own_step, silent}
use Rattle.promises.proofs.Bounds.Others.{passes}

lets_is : (w : ℕ) (c : Choice) → lets w c ≡ true → c ≡ steps w
lets_is w (takes v q) e = clash (cc)
lets_is w (steps v) e = ap steps (eqb-true v w e)
lets_is w sweeps e = clash (cc)

module _ (workers : ℕ) (most : workers ≤ 8) (w : ℕ) where
  -- what is held of a call with a bound
  pub record Going (m : Moment) (X : Conf) : Type 0 where
    pub held : Held workers m X
    pub enters : EnteredSpot (X.at w)
    pub some : 1 ≤ limit (X.at w)

  -- how far it is at most, if w has so many steps before it
  abbrev pub Left : Conf → ℕ → Type 0
  Left X n = n + far X.world (X.at w) ≤ limit (X.at w)

  module _ (m : Moment) (X : Conf) (g : Going m X) where
    -- a worker with a limit is a busy worker of the table
    low : w < workers
    low = elim (lt_or w workers) [ inl l ↦ l | inr h ↦ absurd (omega (arith, g.some, ap limit (g.held.beyond w h))) ]

    stands : Stands X.world.v.used (worker_at m.table w) (X.at w)
    stands = (g.held.shown w (omega (arith, low))).stands

    is_busy : busy m.table w ≡ true
    is_busy = by (not (resting (X.at w))) refl
      where
        by : (b : Bool) → not (resting (X.at w)) ≡ b → busy m.table w ≡ true
        by true e = busy_is X.world.v.used (worker_at m.table w) (X.at w) stands ∙ e
        by false e = absurd (omega (arith, g.some, ap limit (rest_of (X.at w) e)))

    few : X.world.v.used ≤ 256
    few = vertices_in_pool m.catalogue X.world g.held.shows

    few_edges : X.world.e.used ≤ 2048
    few_edges = edges_in_pool m.catalogue X.world g.held.shows

    within : Left X 0
    within = omega (arith, far_most X.world few few_edges (worker_at m.table w) (X.at w) stands g.some)

    -- its own step that is not replied to
    own : (n : ℕ) → step_replies w m ≡ false → ((Y : Conf) → Going (choose m (steps w)).moment Y → Left Y n) → Left X (1 + n)
    own n q rest =
        let s = own_step workers m X g.held most w low is_busy in
        let o = move X.world (X.at w) in
        let f = goes_further X.world few few_edges (worker_at m.table w) g.held.fine.good (X.at w) (g.held.fine.ok w) stands g.enters g.some (silent s q) in
        let e : upd X.at w o.spot w ≡ o.spot = upd_at X.at w o.spot w refl in
        let z = rest (act X (Choices.steps w)) (record { held = s.held; enters = rw e f.enters; some = rw (e, f.same) g.some }) in
        omega (arith, rw e at z, f.same, f.rises)

    -- another choice
    other : (n : ℕ) (c : Choice) → Keyed c → lets w c ≡ false → ((Y : Conf) → Going (choose m c).moment Y → Left Y n) → Left X n
    other n c k e rest =
        let p = passes workers m X g.held most w low is_busy c k e in
        let z = rest p.conf (record { held = p.held; enters = rw p.same g.enters; some = rw p.same g.some }) in
        let kept = far_kept X.world p.conf.world p.both g.held.fine.good p.held.fine.good (X.at w) (g.held.fine.ok w) in
        omega (arith, rw p.same at z, kept)

  pub bounded : (m : Moment) (X : Conf) → Going m X → (cs : List Choice) → All Keyed cs → Unanswered w m cs → Left X (own_steps w cs)
  unfolding own_steps
  bounded m X g [] k u = within m X g
  bounded m X g (c ∷ cs) (each k ks) (also q u) = by (lets w c) refl (λ Y h. bounded (choose m c).moment Y h cs ks u)
    where
      by : (b : Bool) → lets w c ≡ b → ((Y : Conf) → Going (choose m c).moment Y → Left Y (own_steps w cs)) → Left X (pick b 1 0 + own_steps w cs)
      by true e rest = own m X g (own_steps w cs) (q e) (λ Y h. rest Y (rw (lets_is w c e) h))
      by false e rest = omega (arith, other m X g (own_steps w cs) c k e rest)
