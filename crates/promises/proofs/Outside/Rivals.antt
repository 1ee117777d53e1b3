-- Reply 7 is given at an edge on trial with the key asked for:
-- the own edge of another worker, for the same pair.
use Prim.Native.Nat.{ℕ, ◌≤◌, ◌<◌}
use mathlib.Core.Bool.{true}
use mathlib.Core.Path.{◌≡◌, refl, ap, ap₂, sym, ◌∙◌, subst}
use native.Mathlib.Omega.{arith}
use lib.IntN.{ℤ}
use Rattle.catalogue.specs.Catalogue.{Catalogue}
use Rattle.catalogue.specs.Choosing.{Moment}
use Rattle.catalogue.specs.Workers.{worker_at}
use Rattle.catalogue.specs.Steps.Edges.{look_at_edge}
use Rattle.catalogue.specs.Steps.Finding.{ends_of}
use Rattle.catalogue.specs.declared.steps.EdgeSeen.{EdgeSeen}
use Rattle.catalogue.specs.declared.steps.EdgeSeen.TheVariants as edge_seen
use Rattle.catalogue.specs.declared.steps.Landed.{Landed}
use Rattle.catalogue.specs.declared.workers.Ahead.{Ahead}
use Rattle.catalogue.specs.declared.workers.Ends.{Ends}
use Rattle.catalogue.specs.declared.workers.Pair.{Pair}
use Rattle.catalogue.specs.declared.workers.Place.{Place}
use Rattle.catalogue.specs.declared.workers.Worker.{Worker}
use Rattle.catalogue.specs.declared.writes.Write.{Write}
use Rattle.catalogue.specs.declared.writes.Write.TheVariants.{Nothing}
use Rattle.laws.proofs.Picks.{clash}
use Rattle.laws.proofs.Rules.{eq_z_eq}
use Rattle.row.specs.Lists.Edges.{Tag, marked, transit, added, Prev, link}
use Rattle.row.specs.Machine.World.{World, OnTrial}
use Rattle.row.specs.Machine.Moves.{ESeen}
use Rattle.row.specs.Machine.Choices.{Conf}
use Rattle.row.proofs.Steps.Spots.{Ok}
use Rattle.promises.specs.Moments
use Rattle.promises.specs.Moments.{place_of}
use Rattle.promises.specs.Outside.{Tries, Rival}
use Rattle.promises.specs.Promises
use Rattle.promises.proofs.Showing.Shows.{Stands, edge_tag_of, keys, at_look, at_trial}
use Rattle.promises.proofs.Showing.Pools.{series_of}
use Rattle.row.proofs.Lists.LinkLaws.{no_tail}
use Rattle.promises.proofs.Steps.EdgeLooks.{Sees, dead, again, passes, marks, onward, equal, other, sees}
use Rattle.promises.proofs.Runs.Held.{Held}
use Rattle.promises.proofs.Runs.Course.{held_at}
use Rattle.promises.proofs.Fates.Told.{Seven, Told, in_row, lacks, loops}
use Rattle.promises.proofs.Fates.Any.{fate}
use Rattle.promises.proofs.Outside.Replies.{replied_by, unwritten}
use Rattle.promises.proofs.Outside.Spots.{Looks, adds_spot, trier}

-- what is known with 7
seven : {C : Catalogue} {x : Ahead} {pl : Place} {n : ℕ} {write : Write} → n ≡ 7 → Told C x pl n write
    → Seven C pl × (write ≡ Nothing)
seven q (in_row a b) = clash (cc (rw q at a))
seven q (lacks e f z) = absurd (omega arith)
seven q (Told.on_trial e f z) = (z, f)
seven q (loops e z) = absurd (omega arith)

-- what was seen is an edge on trial with that key
record Tried (W : World) (l : ℤ) (u c : ℕ) (p : Prev) : Type 0 where
  lead : link W.e u p ≡ c
  on : OnTrial W c
  key : W.e.key c ≡ l

pub tag_is : (t : Tag) → edge_tag_of t ≡ 2 → t ≡ transit
tag_is marked e = absurd (omega arith)
tag_is transit e = refl
tag_is added e = absurd (omega arith)

tried : (W : World) (l : ℤ) (u : ℕ) (p : Prev) (c : ℕ) (x : EdgeSeen) (y : ESeen) (at : Landed) → x ≡ edge_seen.Settles at → at.tag ≡ 2 → at.equal ≡ true
    → Sees W l u p c x y → Tried W l u c p
tried W l u p c x y at q g i dead = clash (cc)
tried W l u p c x y at q g i again = clash (cc)
tried W l u p c x y at q g i (passes lead o) = clash (cc)
tried W l u p c x y at q g i (marks o) = clash (cc)
tried W l u p c x y at q g i (onward o) = clash (cc)
tried W l u p c x y at q g i (equal lead o e t f m) =
    let z : edge_tag_of t ≡ 2 = cc in
    record { lead = lead; on = record { low = o.0; high = o.1; tried = f ∙ tag_is t z }; key = eq_z_eq (W.e.key c) l e }
tried W l u p c x y at q g i (other lead e next tag) = clash (cc)

module _ (workers : ℕ) (m : Moment) (X : Conf) (h : Held workers m X) (most : workers ≤ 8) (w : ℕ) (low : w < workers) where
  abbrev W : World
  W = X.world

  abbrev used : ℕ
  used = W.v.used

  abbrev r : Worker
  r = worker_at m.table w

  -- whose edge it is
  other_worker : (ends : Ends) (p : Prev) (c : ℕ) → X.at w ≡ at_look true ends p c → Tried W ends.pair.l ends.u c p → Rival workers m w ends.pair
  other_worker ends p c is t =
      let ok : Ok W (at_look true ends p c) = rw is at (h.fine.ok w) in
      let y = h.fine.tried c t.on in
      let z = trier workers m X h most y.0 c t.on.low y.1 in
      let i = z.trial.ends in
      let mine : Ok W (at_trial i c z.trial.hunt) = rw z.trial.is at (h.fine.ok y.0) in
      let there = ((h.fine.good.esound.sorted ends.u).follows p ok.1.inside ok.1.inner).inside in
      let listed = no_tail W.e ends.u c (rw t.lead at there) (λ q. omega (arith, t.on.low)) in
      let same_u : i.u ≡ ends.u = sym mine.1.from_u ∙ listed.own in
      let same_l : i.pair.l ≡ ends.pair.l = sym mine.1.key_l ∙ t.key in
      let same_k : i.pair.k ≡ ends.pair.k = sym mine.0.source.holds ∙ ap W.v.key same_u ∙ ok.0.source.holds in
      record {
        worker = y.0;
        inside = z.inside;
        other = λ q. clash (cc (ap X.at q, z.trial.is));
        u = i.u;
        v = i.v;
        e = c;
        tries = subst (λ (o : Pair). Tries (ends_of o i.u i.v) c (place_of m y.0)) (ap₂ keys same_k same_l) z.tries;
      }

  rival : (z : Seven m.catalogue (place_of m w)) → Rival workers m w z.ends.pair
  rival z = by (adds_spot used r (X.at w) (h.shown w (omega arith)).stands z.ends z.p z.c z.is)
    where
      by : Looks z.ends z.p z.c (X.at w) → Rival workers m w z.ends.pair
      by s =
          let l = z.ends.pair.l in
          let u = z.ends.u in
          let ok : Ok W (at_look true z.ends s.behind z.c) = rw s.is at (h.fine.ok w) in
          let st : Stands used r (at_look true z.ends s.behind z.c) = rw s.is at (h.shown w (omega arith)).stands in
          let seen = sees m.catalogue W h.shows h.fine.good l u s.behind z.c ok.0.legal ok.1 z.ends.pair.k z.ends.v st.1
          (series_of ok.0.source) (series_of ok.0.goal) in
          other_worker z.ends s.behind z.c s.is
          (tried W l u s.behind z.c _ _ z.at
          (ap (λ q. look_at_edge m.catalogue z.ends q z.c) s.same ∙ z.seen) z.tag z.equal seen)

pub on_trial : Promises.OnTrial
on_trial workers choices g w low r =
    let m : Moment = Moments.at workers choices in
    let z = replied_by m.catalogue m.table w 7 r in
    let y = seven refl (rw z.decides at (fate m.catalogue (worker_at m.table w))) in
    let a = held_at workers choices g in
    let i = y.0.is in
    (rw i (rival workers m a.0 a.1 g.most w low y.0), z.leaves ∙ unwritten m.catalogue z.write y.1)
