-- The spot of a worker whose place is known, and the other way round.
use Prim.Native.Nat.{ℕ, ◌≤◌, ◌<◌}
use mathlib.Core.Bool.{true, false}
use mathlib.Core.Logic.{inl, inr}
use mathlib.Core.Path.{◌≡◌, refl, sym, subst}
use native.Mathlib.Omega.{arith}
use lib.IntN.{ℤ}
use Rattle.catalogue.specs.Choosing.{Moment}
use Rattle.catalogue.specs.Workers.{worker_at}
use Rattle.catalogue.specs.declared.workers.Ends.{Ends}
use Rattle.catalogue.specs.declared.workers.Place.{Place}
use Rattle.catalogue.specs.declared.workers.Place.TheVariants as place
use Rattle.catalogue.specs.declared.workers.Prev
use Rattle.catalogue.specs.declared.workers.Worker.{Worker}
use Rattle.laws.proofs.Picks.{clash}
use Rattle.row.proofs.Base.{lt_or}
use Rattle.row.specs.Machine.Vertices.{Idle, AddV, RemV, ConV}
use Rattle.row.specs.Lists.Edges.{Prev}
use Rattle.row.specs.Machine.World.{Opened, closed, opened, adds, rems, cons, Hunt, Spot, Rest, Vert, FindU, FindV, LookE, ConE, Trial}
use Rattle.row.specs.Machine.Choices.{Conf}
use Rattle.row.proofs.Steps.Spots.{own}
use Rattle.promises.specs.Moments.{place_of}
use Rattle.promises.specs.Outside.{Tries, shut, open_at}
use Rattle.promises.proofs.Showing.Shows.{Stands, Hunted, prev_of, trial_place, between, at_look, at_trial}
use Rattle.promises.proofs.Runs.Held.{Held}

-- ---- by the place

-- AddE's look
pub record Looks (ends : Ends) (p : Prev.Prev) (c : ℕ) (s : Spot) : Type 0 where
  pub behind : Prev
  pub is : s ≡ at_look true ends behind c
  pub same : prev_of behind ≡ p

-- a worker that tries
pub record Trying (used : ℕ) (w : Worker) (ends : Ends) (e : ℕ) (s : Spot) : Type 0 where
  pub hunt : Hunt
  pub is : s ≡ at_trial ends e hunt
  pub stands : w.place ≡ trial_place ends e hunt.stand
  pub keeps : Hunted used w.reach hunt

module _ (used : ℕ) (w : Worker) where
  -- what is known of the spot where the place is AddV's or AddE's look, or a trial's
  abbrev Spotted : Spot → Place → Type 0
  Spotted s place.Idle = Unit {0}
  Spotted s (place.AddV k p c) = s ≡ Vert (AddV k p c)
  Spotted s (place.RemV k p c) = Unit {0}
  Spotted s (place.ConV k c) = Unit {0}
  Spotted s (place.AddEFindU pair c) = Unit {0}
  Spotted s (place.RemEFindU pair c) = Unit {0}
  Spotted s (place.ConEFindU pair c) = Unit {0}
  Spotted s (place.AddEFindV pair u c) = Unit {0}
  Spotted s (place.RemEFindV pair u c) = Unit {0}
  Spotted s (place.ConEFindV pair u c) = Unit {0}
  Spotted s (place.AddE ends p c) = Looks ends p c s
  Spotted s (place.RemE ends p c) = Unit {0}
  Spotted s (place.ConE ends c) = Unit {0}
  Spotted s (place.Trial ends e) = Trying used w ends e s
  Spotted s (place.TrialOpen ends e x c) = Trying used w ends e s

  spotted : (s : Spot) → Stands used w s → Spotted s w.place
  spotted Rest q = rw q tt
  spotted (Vert Idle) q = absurd q
  spotted (Vert (AddV k p c)) q = rw q refl
  spotted (Vert (RemV k p c)) q = rw q tt
  spotted (Vert (ConV k c)) q = rw q tt
  spotted (FindU adds k l c) q = rw q tt
  spotted (FindU rems k l c) q = rw q tt
  spotted (FindU cons k l c) q = rw q tt
  spotted (FindV adds k l u c) q = rw q tt
  spotted (FindV rems k l u c) q = rw q tt
  spotted (FindV cons k l u c) q = rw q tt
  spotted (LookE true k l u v p c) q = rw q.0 (record { behind = p; is = refl; same = refl })
  spotted (LookE false k l u v p c) q = rw q.0 tt
  spotted (ConE k l u v c) q = rw q tt
  spotted (Trial k l u v e h) q = subst (Spotted (Trial k l u v e h)) (sym q.0) (by h.stand (record { hunt = h; is = refl; stands = q.0; keeps = q.1 }))
    where
      by : (o : Opened) → Trying used w (between k l u v) e (Trial k l u v e h) → Spotted (Trial k l u v e h) (trial_place (between k l u v) e o)
      by closed z = z
      by (opened x c) z = z

  module _ (s : Spot) (q : Stands used w s) where
    pub adds_vertex_spot : (k : ℤ) (p c : ℕ) → w.place ≡ place.AddV k p c → s ≡ Vert (AddV k p c)
    adds_vertex_spot k p c e = subst (Spotted s) e (spotted s q)

    pub adds_spot : (ends : Ends) (p : Prev.Prev) (c : ℕ) → w.place ≡ place.AddE ends p c → Looks ends p c s
    adds_spot ends p c e = subst (Spotted s) e (spotted s q)

    pub trial_spot : (ends : Ends) (e : ℕ) → Tries ends e w.place → Trying used w ends e s
    trial_spot ends e (shut t) = subst (Spotted s) t (spotted s q)
    trial_spot ends e (open_at x c t) = subst (Spotted s) t (spotted s q)

-- ---- trials

-- a spot with an own edge
pub record TrialAt (s : Spot) (e : ℕ) : Type 0 where
  pub ends : Ends
  pub hunt : Hunt
  pub is : s ≡ at_trial ends e hunt

pub own_trial : (s : Spot) (e : ℕ) → 1 ≤ e → own s ≡ e → TrialAt s e
own_trial Rest e h q = absurd (omega arith)
own_trial (Vert a) e h q = absurd (omega arith)
own_trial (FindU a k l c) e h q = absurd (omega arith)
own_trial (FindV a k l u c) e h q = absurd (omega arith)
own_trial (LookE b k l u v p c) e h q = absurd (omega arith)
own_trial (ConE k l u v c) e h q = absurd (omega arith)
own_trial (Trial k l u v o z) e h q = record { ends = between k l u v; hunt = z; is = cc }

-- its worker tries that pair
pub spot_tries : (used : ℕ) (w : Worker) (ends : Ends) (e : ℕ) (h : Hunt) → Stands used w (at_trial ends e h) → Tries ends e w.place
spot_tries used w ends e h q = by h.stand q.0
  where
    by : (o : Opened) → w.place ≡ trial_place ends e o → Tries ends e w.place
    by closed z = shut z
    by (opened x c) z = open_at x c z

-- ---- beside a moment that is held

-- the worker whose own edge e is
pub record Trier (workers : ℕ) (m : Moment) (x e : ℕ) (s : Spot) : Type 0 where
  pub inside : x < workers
  pub trial : TrialAt s e
  pub tries : Tries trial.ends e (place_of m x)

module _ (workers : ℕ) (m : Moment) (X : Conf) (h : Held workers m X) (most : workers ≤ 8) where
  pub trier : (x e : ℕ) → 1 ≤ e → own (X.at x) ≡ e → Trier workers m x e (X.at x)
  trier x e low q =
      let i = own_trial (X.at x) e low q in
      let inside : x < workers = elim (lt_or x workers) [ inl b ↦ b | inr b ↦ clash (cc (i.is, h.beyond x b)) ] in
      let r = worker_at m.table x in
      record {
        inside = inside;
        trial = i;
        tries =
            spot_tries X.world.v.used r i.ends e i.hunt
            (subst (Stands X.world.v.used r) i.is (h.shown x (omega arith)).stands);
      }

  pub trying_spot : (w : ℕ) → w < workers → (ends : Ends) (e : ℕ) → Tries ends e (place_of m w) → Trying X.world.v.used (worker_at m.table w) ends e (X.at w)
  trying_spot w low ends e t = trial_spot X.world.v.used (worker_at m.table w) (X.at w) (h.shown w (omega arith)).stands ends e t
