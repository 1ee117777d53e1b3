-- Whatever a trial has in its queue, or open, it has come to from its target over edges that stood:
-- so it is when the trial begins, and each of its steps keeps it so.
use Prim.Native.Nat.{ℕ, zero, suc, ◌≤◌, ◌<◌}
use mathlib.Core.List.{List}
use mathlib.Core.Logic.{inl, inr}
use mathlib.Core.Path.{◌≡◌, ap, sym, ◌∙◌}
use native.Mathlib.Omega.{arith}
use lib.ListN.{length, get_or}
use lib.Seq.{get_or-set_same, get_or-set_other}
use Rattle.catalogue.specs.Catalogue.{Catalogue}
use Rattle.catalogue.specs.Choosing.{Choice, steps, Moment}
use Rattle.catalogue.specs.Workers.{worker_at, begun, kept, queued, taken, ahead}
use Rattle.catalogue.specs.declared.workers.Ends.{Ends}
use Rattle.catalogue.specs.declared.workers.Place.{Place}
use Rattle.catalogue.specs.declared.workers.Place.TheVariants.{Trial, TrialOpen}
use Rattle.catalogue.specs.declared.workers.Worker.{Worker}
use Rattle.row.proofs.Base.{same?, lt_or}
use Rattle.laws.proofs.Picks.{clash}
use Rattle.promises.specs.Moments.{Given, moment, chosen}
use Rattle.promises.specs.Outside.{Tries, shut, open_at, Lasts, Crossed, here, cross}
use Rattle.promises.proofs.Fates.Told.{tries_trying, Kept, stays, closes, Met, Taken, skips, opens}
use Rattle.promises.proofs.Outside.Run.{run}
use Rattle.promises.proofs.Outside.Spots.{trying_spot}
use Rattle.promises.proofs.Outside.Ways.{begins, rests, keeps, meets, takes, way_next}
use Rattle.promises.proofs.Outside.Crossing.{open_spot, in_list}

module _ (workers : ℕ) (choices : List Choice) (w : ℕ) (ends : Ends) (e first : ℕ) where
  abbrev C : ℕ → ℕ → Type 0
  C n y = Crossed workers choices w ends e first n y

  -- a chain to a vertex that may be open: it is not the source
  abbrev To : ℕ → ℕ → Type 0
  To n x = C n x × (x ≡ ends.u → ⊥)

  later : {n y : ℕ} → C n y → C (suc n) y
  later here = here
  later (cross i a b z c) = cross i a (omega arith) z (later c)

  later_to : (n x : ℕ) → To n x → To (suc n) x
  later_to n x z = (later z.0, z.1)

  -- what is known of the queue and of the open vertex at the moment n
  pub record Known (n : ℕ) (r : Worker) : Type 0 where
    pub waiting : (i : ℕ) → r.reach.front ≤ i → i < r.reach.back → C n (get_or r.reach.queue i 0)
    pub standing : (x c : ℕ) → r.place ≡ TrialOpen ends e x c → To n x

  module _ {n : ℕ} (r : Worker) (a : Known n r) where
    known_later : Known (suc n) r
    known_later = record { waiting = λ i b d. later (a.waiting i b d); standing = λ x c q. later_to n x (a.standing x c q) }

    kept_open : {next : Place} → Kept r.place next → (x c : ℕ) → next ≡ TrialOpen ends e x c → To n x
    kept_open (stays s f y d d' p q) x c z = a.standing x d (cc)
    kept_open (closes s f y d p q) x c z = clash (cc)

    known_kept : (next : Place) → Kept r.place next → Known (suc n) (kept r next)
    known_kept next f = record { waiting = λ i b d. later (a.waiting i b d); standing = λ x c q. later_to n x (kept_open f x c q) }

    -- y is met from the open vertex x
    known_met : (next : Place) (y : ℕ) → C (suc n) y → (x c d : ℕ) → r.place ≡ TrialOpen ends e x c → next ≡ TrialOpen ends e x d
        → r.reach.back < length r.reach.queue → Known (suc n) (queued r next y)
    known_met next y chain x c d p q room = record {
      waiting = λ i b t. elim (same? i r.reach.back) [
        | inl z ↦ rw (z, get_or-set_same r.reach.queue r.reach.back y 0 room) chain
        | inr z ↦ rw (get_or-set_other r.reach.queue r.reach.back i y 0 z) (later (a.waiting i b (omega arith)))
      ];
      standing = λ x' c' z. (let s : x ≡ x' = cc in rw (← s) (later_to n x (a.standing x c p)));
    }

    taken_open : {next : Place} → r.reach.front ≤ r.reach.back → Taken (ahead r.reach) r.place next → Tries ends e r.place
        → (x c : ℕ) → next ≡ TrialOpen ends e x c → To n x
    taken_open o (skips s f p q m) b x c z = clash (cc)
    taken_open o (opens s f d p q m y) b x c z =
        let g : (ahead r.reach).x ≡ x = cc in
        let h : s ≡ ends = cc in
        (rw (← g) (a.waiting r.reach.front (omega arith) (omega arith)), λ i. y (g ∙ i ∙ sym (ap (λ (o : Ends). o.u) h)))

    known_taken : (next : Place) → r.reach.front ≤ r.reach.back → Taken (ahead r.reach) r.place next → Tries ends e r.place
        → Known (suc n) (taken r next)
    known_taken next o f b = record {
      waiting = λ i s t. later (a.waiting i (omega arith) t);
      standing = λ x c q. later_to n x (taken_open o f b x c q);
    }

  known_begun : (n : ℕ) → Known n (begun (Trial ends e) ends.v)
  known_begun n = record { waiting = λ i b d. (let z : i ≡ 0 = omega arith in rw z here); standing = λ x c q. clash (cc) }

module _ (workers : ℕ) (choices : List Choice) (g : Given workers choices) (w : ℕ) (low : w < workers) (ends : Ends) (e first last : ℕ)
    (o : Lasts workers choices w ends e first last) where
  abbrev R : ℕ → Worker
  R n = worker_at (moment workers choices n).table w

  abbrev K : ℕ → Type 0
  K n = Known workers choices w ends e first n (R n)

  -- w has not tried before it put its edge in
  no_adds : (n : ℕ) → n ≡ o.before → Tries ends e (R n).place → K (suc n)
  no_adds n q t = clash (cc (tries_trying t, o.adds))

  starts : (n : ℕ) → n ≡ o.before → Tries ends e (R (suc n)).place → K (suc n)
  starts n q t =
      elim (way_next workers choices g w low n ends e t) [
        | begins p c a s ↦ rw s (known_begun workers choices w ends e first (suc n))
        | rests b s ↦ no_adds n q b
        | keeps b next s f ↦ no_adds n q b
        | meets b i next y s f ↦ no_adds n q b
        | takes b next s f ↦ no_adds n q b
      ]

  -- the queue of a worker that tries
  queue_fits : (n : ℕ) → Tries ends e (R n).place → ((R n).reach.front ≤ (R n).reach.back) × (length (R n).reach.queue ≡ 256)
  queue_fits n t =
      let z = run workers choices g n in
      let h = (trying_spot workers (moment workers choices n) z.0 z.1 g.most w low ends e t).keeps in
      (h.queued.ordered, h.queued.queue_length)

  open_there : {pl next : Place} {D : Catalogue} {back y : ℕ} (f : Met D back pl next y) → Tries ends e pl
      → (pl ≡ TrialOpen ends e f.x f.c) × (next ≡ TrialOpen ends e f.x f.d)
  open_there f (shut q) = clash (cc f.from)
  open_there f (open_at x c q) = let a = f.from in let b = f.to in (cc, cc)

  -- the choice n crosses to y
  crossing : (n : ℕ) → first ≤ n → Tries ends e (R n).place → K n → chosen workers choices n ≡ steps w
      → (next : Place) (y : ℕ) → Met (moment workers choices n).catalogue (R n).reach.back (R n).place next y
      → Known workers choices w ends e first (suc n) (queued (R n) next y)
  crossing n h t a i next y f =
      let m : Moment = moment workers choices n in
      let z = run workers choices g n in
      let p = open_there f t in
      let s = open_spot workers m z.0 z.1 g.most w low ends e f.x f.c p.0 f.inner in
      let chain : Crossed workers choices w ends e first (suc n) y = cross n h (omega arith) (record {
        edge = f.c;
        chose = i;
        opened = p.0;
        stands = record {
          listed = in_list workers m z.0 z.1 f.x f.c s f.d f.tag f.link f.plain;
          next = f.d;
          tag = f.tag;
          link = f.link;
          plain = f.plain;
          leads = f.leads;
          source = f.source;
          goal = f.goal;
        };
      }) (later workers choices w ends e first (a.standing f.x f.c p.0).0) in
      known_met workers choices w ends e first (R n) a next y chain f.x f.c f.d p.0 p.1 (omega (arith, f.room, (queue_fits n t).1))

  goes_on : (n : ℕ) → first ≤ n → Tries ends e (R n).place → Tries ends e (R (suc n)).place → K n → K (suc n)
  goes_on n h t t' a =
      elim (way_next workers choices g w low n ends e t') [
        | begins p c z s ↦ clash (cc (tries_trying t))
        | rests b s ↦ rw s (known_later workers choices w ends e first (R n) a)
        | keeps b next s f ↦ rw s (known_kept workers choices w ends e first (R n) a next f)
        | meets b i next y s f ↦ rw s (crossing n h b a i next y f)
        | takes b next s f ↦ rw s (known_taken workers choices w ends e first (R n) a next (queue_fits n b).0 f b)
      ]

  pub known : (n : ℕ) → first ≤ n → n ≤ last → K n
  known zero h i = absurd (omega (arith, o.begins))
  known (suc n) h i =
      elim (lt_or n first) [
        | inl b ↦ starts n (omega (arith, o.begins)) (o.tries (suc n) h i)
        | inr b ↦ goes_on n b (o.tries n b (omega arith)) (o.tries (suc n) h i) (known n b (omega arith))
      ]
