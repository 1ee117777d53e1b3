-- A worker that tries has put its edge in with some choice, and has tried ever since: by induction on the choices.
use Prim.Native.Nat.{ℕ, zero, suc, ◌<◌}
use mathlib.Core.List.{List}
use mathlib.Core.Logic.{inl, inr}
use mathlib.Core.Path.{◌≡◌, refl, ap}
use native.Mathlib.Omega.{arith}
use Rattle.catalogue.specs.Choosing.{Choice}
use Rattle.catalogue.specs.declared.workers.Ends.{Ends}
use Rattle.catalogue.specs.declared.workers.Place.TheVariants.{Idle}
use Rattle.row.proofs.Base.{same?}
use Rattle.row.specs.Machine.Choices.{conf}
use Rattle.laws.proofs.Picks.{clash}
use Rattle.promises.specs.Moments.{Given, moment, place_of}
use Rattle.promises.specs.Outside.{Tries, Lasts}
use Rattle.promises.proofs.Fates.Told.{trying, tries_trying}
use Rattle.promises.proofs.Outside.Run.{run}
use Rattle.promises.proofs.Outside.Ways.{begins, rests, keeps, meets, takes, way_next}

module _ (workers : ℕ) (choices : List Choice) (g : Given workers choices) (w : ℕ) (low : w < workers) (ends : Ends) (e : ℕ) where
  abbrev T : ℕ → Type 0
  T n = Tries ends e (place_of (moment workers choices n) w)

  abbrev L : ℕ → ℕ → Type 0
  L first n = Lasts workers choices w ends e first n

  longer : (n : ℕ) → T (suc n) → (first : ℕ) × L first n → (first : ℕ) × L first (suc n)
  longer n t z =
      let o = z.1 in (
        z.0,
        record {
          before = o.before;
          begins = o.begins;
          started = omega (arith, o.started);
          p = o.p;
          c = o.c;
          adds = o.adds;
          tries = λ i a b. elim (same? i (suc n)) [ inl q ↦ rw q t | inr d ↦ o.tries i a (omega arith) ];
        },
      )

  pub lasting : (n : ℕ) → T n → (first : ℕ) × L first n
  unfolding conf
  lasting zero t =
      let most = g.most in
      let z : place_of (moment workers choices 0) w ≡ Idle = ((run workers choices g 0).1.shown w (omega arith)).stands in
      clash (cc (tries_trying t, ap trying z))
  lasting (suc n) t =
      elim (way_next workers choices g w low n ends e t) [
        | begins p c q s ↦ (
          suc n,
          record {
            before = n;
            begins = refl;
            started = omega arith;
            p = p;
            c = c;
            adds = q;
            tries = λ i a b. (let z : i ≡ suc n = omega arith in rw z t);
          },
        )
        | rests b q ↦ longer n t (lasting n b)
        | keeps b next q f ↦ longer n t (lasting n b)
        | meets b i next y q f ↦ longer n t (lasting n b)
        | takes b next q f ↦ longer n t (lasting n b)
      ]
