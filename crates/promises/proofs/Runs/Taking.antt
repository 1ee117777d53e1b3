-- A choice to take up a request: where it is refused nothing changes,
-- and else the machine's worker stands where the request begins.
use Prim.Native.Nat.{ℕ, zero, suc, ◌≤◌, ◌<◌}
use mathlib.Core.Bool.{Bool, true, false, cond, ◌&&◌}
use mathlib.Core.Option.{none, some}
use mathlib.Core.Path.{◌≡◌, refl, sym, ◌∙◌}
use mathlib.Core.Logic.{inl, inr}
use native.Mathlib.Omega.{arith}
use borrow.Author.Tests.{leb-true, lt-ltb}
use lib.IntN.{ℤ}
use lib.Dec.{eqb, leb}
use lib.Signed.{lt_z}
use Rattle.std.proofs.Common.{Ok}
use Rattle.catalogue.specs.Tests.{pick, upd, eq_z}
use Rattle.catalogue.specs.Numbers.{least, greatest, reserved}
use Rattle.catalogue.specs.Calls.{After, refuse, take_up}
use Rattle.catalogue.specs.Choosing.{Moment}
use Rattle.catalogue.specs.Workers.{worker_at, put, bare, asks}
use Rattle.catalogue.specs.Steps.Places.{code_known, key_refused, first_place}
use Rattle.catalogue.specs.declared.answers.Refusal.{Refusal}
use Rattle.catalogue.specs.declared.answers.Refusal.TheVariants as refusal
use Rattle.catalogue.specs.declared.answers.Answer.TheVariants as answer
use Rattle.catalogue.specs.declared.workers.Worker.{Worker}
use Rattle.laws.proofs.Picks.{pick_both, clash, both_true, same_next}
use Rattle.laws.proofs.Keys.{risen}
use Rattle.row.proofs.Tests.{eq_z_yes, not_below, not_false}
use Rattle.row.specs.Machine.Vertices.{addV, remV, conV, fits_key}
use Rattle.row.specs.Machine.World
use Rattle.row.specs.Machine.World.{World, vert, addE, remE, conE}
use Rattle.row.specs.Machine.Choices.{resting, Conf, takes, starts, allowed, takable}
use Rattle.row.proofs.Events.Fine.{Fine, act_fine}
use Rattle.promises.specs.Moments.{Key, Fitting}
use Rattle.promises.specs.Alone.{ask_of}
use Rattle.promises.specs.Histories.{accepted}
use Rattle.promises.proofs.Showing.Shows.{Shown}
use Rattle.promises.proofs.Showing.Tests.{neither}
use Rattle.promises.proofs.Runs.Held.{Held, busy_is}
use Rattle.promises.proofs.Runs.Telling.{asked_of, taken_of}
use Rattle.promises.proofs.Runs.Done.{held_with, Tells, Done, refused, in_table}
use Rattle.catalogue.specs.declared.workers.Request.{Request}
use Rattle.laws.proofs.Admits.{Admitted, take_up_both}

-- ---- keys

-- a key that is not reserved
fitting : (k : ℤ) → Key k → reserved k ≡ false → fits_key k ≡ true
unfolding reserved
fitting k h r = rw (above, below)
  where
    above : lt_z least k ≡ true
    above =
        elim (not_below k least h.low) [
          | inl e ↦ clash (cc (sym (eq_z_yes k least e) ∙ (neither (eq_z k least) (eq_z k greatest) r).0))
          | inr l ↦ risen least k l
        ]

    below : lt_z k greatest ≡ true
    below =
        elim (not_below greatest k h.high) [
          | inl e ↦ clash (cc (sym (eq_z_yes k greatest (sym e)) ∙ (neither (eq_z k least) (eq_z k greatest) r).1))
          | inr l ↦ risen k greatest l
        ]

-- ---- requests

-- what the machine is asked for
pub record Taken (W : World) (q : Request) : Type 0 where
  pub ask : World.Ask
  pub fits : allowed ask ≡ true
  pub is : asked_of ask ≡ ask_of q
  pub shown : Shown W.v.used (bare (first_place q (W.v.next 0))) (starts W ask)

module _ (W : World) (k l : ℤ) (hk : Key k) (hl : Key l) where
  -- of a request with one key, and with two
  one_free : pick (reserved k) true false ≡ false → fits_key k ≡ true
  one_free e = fitting k hk (neither (reserved k) false e).0

  two_free : pick (reserved k) true (reserved l) ≡ false → (fits_key k && fits_key l) ≡ true
  two_free e = let n = neither (reserved k) (reserved l) e in rw (fitting k hk n.0, fitting l hl n.1)

  taken : (code : ℕ) → code_known code ≡ true → key_refused (asks code k l) ≡ false → Taken W (asks code k l)
  unfolding key_refused first_place
  taken zero e r = clash (cc)
  taken (suc zero) e r = record { ask = vert (addV k); fits = one_free r; is = refl; shown = record { asked = r; stands = refl } }
  taken (suc (suc zero)) e r = record { ask = vert (remV k); fits = one_free r; is = refl; shown = record { asked = r; stands = refl } }
  taken (suc (suc (suc zero))) e r = record { ask = vert (conV k); fits = one_free r; is = refl; shown = record { asked = r; stands = refl } }
  taken (suc (suc (suc (suc zero)))) e r = record { ask = addE k l; fits = two_free r; is = refl; shown = record { asked = r; stands = refl } }
  taken (suc (suc (suc (suc (suc zero))))) e r = record { ask = remE k l; fits = two_free r; is = refl; shown = record { asked = r; stands = refl } }
  taken (suc (suc (suc (suc (suc (suc zero)))))) e r = record { ask = conE k l; fits = two_free r; is = refl; shown = record { asked = r; stands = refl } }
  taken (suc (suc (suc (suc (suc (suc (suc n))))))) e r =
      let code : ℕ = suc (suc (suc (suc (suc (suc (suc n)))))) in
      absurd (omega (arith, leb-true code 6 (both_true (leb 1 code) (leb code 6) e).1))

-- ---- the call

module _ (workers : ℕ) (m : Moment) (X : Conf) (h : Held workers m X) (most : workers ≤ 8) (v : ℕ) (q : Request) where
  -- where the request begins: the worker's record, what there is after the call, and the machine
  abbrev first : Worker
  first = bare (first_place q (X.world.v.next 0))

  abbrev going : After
  going = record { catalogue = m.catalogue; table = put m.table v first; answer = Ok (answer.Going 0) }

  abbrev begun : World.Ask → Conf
  begun a = record { world = X.world; at = upd X.at v (starts X.world a) }

  -- the worker is in the table, and its place admits the request
  abbrev pub Free : Type 0
  Free = (v < workers) × Admitted m.catalogue (worker_at m.table v).place q (X.world.v.next 0)

  -- what the request asks for is taken up for v where it is accepted; no call is answered
  abbrev pub taking_up : Tells
  taking_up = record {
    up = λ a w. pick (eqb v w) (pick (accepted a) (some (ask_of q)) none) none;
    call = λ a b. none;
    no_up = λ r w. pick_both (λ o. o ≡ none) (eqb v w) _ _ (λ e. refl) (λ e. refl);
    no_call = λ r b. refl;
  }

  -- the machine's worker may take up what is asked, and stands where it begins
  pub record Began : Type 0 where
    pub ask : World.Ask
    pub free : takable X.at v ask ≡ true
    pub is : asked_of ask ≡ ask_of q
    pub shown : Shown X.world.v.used first (starts X.world ask)
    pub held : Held workers (record { catalogue = m.catalogue; table = going.table }) (begun ask)

  pub begins : Fitting q → Free → Began
  begins keys (low, a) =
      let W : World = X.world in
      let z = taken W q.pair.k q.pair.l keys.first keys.second q.code a.known a.keyed in
      let rests : resting (X.at v) ≡ true = not_false (resting (X.at v)) (sym (busy_is W.v.used (worker_at m.table v) (X.at v) (h.shown v (omega arith)).stands) ∙ a.idle) in
      let free : takable X.at v z.ask ≡ true = rw (lt-ltb v 8 (omega arith), rests, z.fits) in
      let f : Fine (begun z.ask) = rw free at (act_fine X h.fine (takes v z.ask) (λ W e g. clash (cc))) in
      record {
        ask = z.ask;
        free = free;
        is = z.is;
        shown = z.shown;
        held = held_with workers m X h v low most m.catalogue W first (starts W z.ask) h.shows f (omega arith) z.shown;
      }

  -- what holds of every refusal, and of a request that begins, holds of the call: the head's link is whole
  pub taking_both : (P : After → Type 0) → ((r : Refusal) → (r ≡ refusal.Torn → ⊥) → P (refuse m.catalogue m.table r)) → (Free → P going)
      → P (take_up m.catalogue m.table v q)
  taking_both P no' yes' =
      let whole = h.shows.vlinks 0 (omega (arith, h.shows.vertices)) (λ z. clash (cc)) in
      take_up_both m.catalogue m.table v q P (λ r why. no' r (λ z. clash (cc (why z))))
      (λ e n a. let same : n ≡ X.world.v.next 0 = same_next (sym a.leads ∙ whole) in rw same (yes' (in_table h v e, rw same at a)))

  pub takes_done : Fitting q → Done workers X taking_up (take_up m.catalogue m.table v q)
  takes_done keys =
      taking_both (Done workers X taking_up) (refused workers m X h most taking_up)
      (λ f.
      let z = begins keys f in
      record {
        choice = takes v z.ask;
        held = rw z.free z.held;
        same = record {
          taken = λ w. opens_same (eqb v w) (takable X.at v z.ask) z.free z.ask z.is;
          answered = λ b. refl;
          honest = λ W q. clash (cc);
        };
        whole = λ q. clash (cc);
      })
    where
      opens_same : (a t : Bool) → t ≡ true → (r : World.Ask) → asked_of r ≡ ask_of q → taken_of (cond (a && t) (some r) none) ≡ pick a (some (ask_of q)) none
      opens_same true t e r i = rw (e, i)
      opens_same false t e r i = refl
