-- How a worker has come to stand in its trial with one choice: the trial has begun,
-- or it was under way and took one of its kinds of step.
use Prim.Native.Nat.{ℕ, suc, ◌<◌}
use mathlib.Core.Bool.{false}
use mathlib.Core.List.{List}
use mathlib.Core.Path.{◌≡◌, refl, ap, sym, ◌∙◌}
use native.Mathlib.Omega.{arith}
use Rattle.catalogue.specs.Catalogue.{Catalogue}
use Rattle.catalogue.specs.Choosing.{Choice, steps, Moment}
use Rattle.catalogue.specs.Workers.{begun, kept, queued, taken, worker_at, ahead}
use Rattle.catalogue.specs.Steps.Decide.{record_after}
use Rattle.catalogue.specs.declared.steps.Decision.{Decision}
use Rattle.catalogue.specs.declared.steps.Decision.TheVariants.{Torn, Code, Going, Begins, Keeps, Meets, Takes, Reply}
use Rattle.catalogue.specs.declared.workers.Ahead.{Ahead}
use Rattle.catalogue.specs.declared.workers.Ends.{Ends}
use Rattle.catalogue.specs.declared.workers.Place.{Place}
use Rattle.catalogue.specs.declared.workers.Place.TheVariants.{AddE, Trial}
use Rattle.catalogue.specs.declared.workers.Prev.{Prev}
use Rattle.catalogue.specs.declared.workers.Worker.{Worker}
use Rattle.laws.proofs.Picks.{clash}
use Rattle.promises.specs.Moments.{Given, moment, chosen, place_of}
use Rattle.promises.specs.Outside.{Tries, shut, open_at}
use Rattle.promises.proofs.Fates.Told.{trying, tries_trying, Begun, Kept, stays, closes, Met, Taken, skips, opens, Fate}
use Rattle.promises.proofs.Fates.Any.{fate}
use Rattle.promises.proofs.Outside.Passing.{Passed, same, stepped, took_up, passed}
use Rattle.promises.proofs.Runs.Schedule.{moment_next}
use Rattle.promises.proofs.Outside.Run.{run}

-- ---- a trial that goes on was the same before

module _ {pl next : Place} {ends : Ends} {e : ℕ} where
  kept_back : Kept pl next → Tries ends e next → Tries ends e pl
  kept_back (stays n f x c d p q) (shut t) = clash (cc)
  kept_back (stays n f x c d p q) (open_at y z t) = open_at x c (cc)
  kept_back (closes n f x c p q) (shut t) = open_at x c (cc)
  kept_back (closes n f x c p q) (open_at y z t) = clash (cc)

  met_back : {C : Catalogue} {back y : ℕ} (m : Met C back pl next y) → Tries ends e next → Tries ends e pl
  met_back m (shut t) = clash (cc m.to)
  met_back m (open_at y z t) = open_at m.x m.c (cc (m.from, m.to))

  taken_back : {a : Ahead} → Taken a pl next → Tries ends e next → Tries ends e pl
  taken_back (skips n f p q m) (shut t) = shut (cc)
  taken_back (skips n f p q m) (open_at y z t) = clash (cc)
  taken_back (opens n f c p q m d) (shut t) = clash (cc)
  taken_back (opens n f c p q m d) (open_at y z t) = shut (cc)

-- ---- by one choice

module _ (m : Moment) (c : Choice) (w : ℕ) where
  -- the record before
  abbrev was : Worker
  was = worker_at m.table w

  -- how w has come to the record s, with which it tries
  pub data Way (ends : Ends) (e : ℕ) (s : Worker) : Type 0 where
    begins : (p : Prev) (d : ℕ) → was.place ≡ AddE ends p d → s ≡ begun (Trial ends e) ends.v → Way ends e s
    rests : Tries ends e was.place → s ≡ was → Way ends e s
    keeps : Tries ends e was.place → (next : Place) → s ≡ kept was next → Kept was.place next → Way ends e s
    meets : Tries ends e was.place → c ≡ steps w → (next : Place) (y : ℕ) → s ≡ queued was next y
        → Met m.catalogue was.reach.back was.place next y → Way ends e s
    takes : Tries ends e was.place → (next : Place) → s ≡ taken was next → Taken (ahead was.reach) was.place next
        → Way ends e s

  module _ (ends : Ends) (e : ℕ) (s : Worker) (t : Tries ends e s.place) where
    no_trial : (pl : Place) → s.place ≡ pl → trying pl ≡ false → Way ends e s
    no_trial pl q f = clash (cc (tries_trying t, ap trying q))

    begun_by : (next : Place) (y : ℕ) → s ≡ begun next y → Begun was.place next y → Way ends e s
    begun_by next y q b =
        elim t [
          | shut z ↦
              let n : next ≡ Trial ends e = ap (λ (x : Worker). x.place) (sym q) ∙ z in
              let i : y ≡ ends.v = b.goal ∙ cc b.to in
              begins b.p b.c (b.from ∙ cc b.to) (q ∙ rw (n, i) refl)
          | open_at x d z ↦ clash (cc (b.to, ap (λ (x : Worker). x.place) q))
        ]

    by_decision : c ≡ steps w → (d : Decision) → s ≡ record_after was d
        → Fate m.catalogue (ahead was.reach) was.place d → Way ends e s
    by_decision i Torn q f = rests (rw q at t) q
    by_decision i Code q f = rests (rw q at t) q
    by_decision i (Going next write) q f = no_trial next (ap (λ (x : Worker). x.place) q) f
    by_decision i (Begins next write y) q f = begun_by next y q f
    by_decision i (Keeps next) q f = keeps (kept_back f (rw q at t)) next q f
    by_decision i (Meets next y) q f = meets (met_back f (rw q at t)) i next y q f
    by_decision i (Takes next) q f = takes (taken_back f (rw q at t)) next q f
    by_decision i (Reply n write) q f = no_trial _ (ap (λ (x : Worker). x.place) q) refl

    pub way : Passed m c w s → Way ends e s
    way (same q) = rests (rw q at t) q
    way (stepped i d e q) = by_decision i d q (rw e at (fate m.catalogue was))
    way (took_up f) = no_trial s.place refl f

module _ (workers : ℕ) (choices : List Choice) (g : Given workers choices) (w : ℕ) (low : w < workers) where
  -- from one moment of a run to the next
  pub way_next : (n : ℕ) (ends : Ends) (e : ℕ) → Tries ends e (place_of (moment workers choices (suc n)) w)
      → Way (moment workers choices n) (chosen workers choices n) w ends e (worker_at (moment workers choices (suc n)).table w)
  way_next n ends e t =
      let most = g.most in
      let h = (run workers choices g n).1 in
      let m : Moment = moment workers choices n in
      let p = passed m w (omega (arith, h.eight)) (chosen workers choices n) in
      way m (chosen workers choices n) w ends e (worker_at (moment workers choices (suc n)).table w) t
      (rw (moment_next workers choices g n h.counted) p)
