-- Reply 6 is given where the source stands at the front of the queue, so a chain leads there;
-- the own edge that is marked was not live.
use Prim.Native.Nat.{ℕ, ◌≤◌, ◌<◌}
use mathlib.Core.Bool.{Bool}
use mathlib.Core.Path.{◌≡◌, refl, ap, sym, ◌∙◌, subst}
use native.Mathlib.Omega.{arith}
use lib.IntN.{ℤ}
use lib.ListN.{length}
use Rattle.catalogue.specs.Catalogue.{Catalogue, vertex_key}
use Rattle.catalogue.specs.Writes.{commit}
use Rattle.catalogue.specs.Choosing.{Moment}
use Rattle.catalogue.specs.Workers.{worker_at, ahead}
use Rattle.catalogue.specs.declared.workers.Place.TheVariants as place
use Rattle.catalogue.specs.declared.writes.Write.{Write}
use Rattle.catalogue.specs.declared.writes.Write.TheVariants.{EdgeLink}
use Rattle.laws.proofs.Picks.{clash, same_next}
use Rattle.row.specs.Machine.Vertices
use Rattle.row.specs.Lists.Edges.{marked, transit, retag}
use Rattle.row.specs.Machine.World.{World, with_e, edges}
use Rattle.row.specs.Machine.Choices.{Conf}
use Rattle.row.proofs.Graphs.Good.{WGood}
use Rattle.row.proofs.Graphs.Changes.{edges_drop}
use Rattle.row.proofs.Steps.Spots.{Pair, Own, Ok}
use Rattle.row.proofs.Steps.Writes.{deed_retag}
use Rattle.promises.specs.Moments.{moment, place_of}
use Rattle.promises.specs.Graphs.{live}
use Rattle.promises.specs.Outside.{Replies, left, shut, Crossed}
use Rattle.promises.specs.Promises.{Cycle}
use Rattle.promises.proofs.Showing.Shows.{Shows, at_trial}
use Rattle.promises.proofs.Showing.EdgeLinks.{shows_retag}
use Rattle.promises.proofs.Lists.Live.{series_is, derived_is}
use Rattle.promises.proofs.Runs.Held.{Held}
use Rattle.promises.proofs.Rows.Sequential.{graph_path}
use Rattle.promises.proofs.Fates.Told.{Told, in_row, lacks, on_trial, loops, Six}
use Rattle.promises.proofs.Fates.Any.{fate}
use Rattle.promises.proofs.Outside.Replies.{replied_by, Replied}
use Rattle.promises.proofs.Outside.Run.{at_end, run}
use Rattle.promises.proofs.Outside.Spots.{trying_spot}
use Rattle.promises.proofs.Outside.Trials.{lasting}
use Rattle.promises.proofs.Outside.Chains.{known}
use Rattle.catalogue.specs.declared.workers.Ahead.{Ahead}
use Rattle.catalogue.specs.declared.workers.Place.{Place}

-- what is known with 6
six : {C : Catalogue} {a : Ahead} {pl : Place} {n : ℕ} {write : Write} → n ≡ 6 → Told C a pl n write → Six C a pl write
six q (in_row a b) = clash (cc (rw q at a))
six q (lacks a f g) = absurd (omega arith)
six q (on_trial a f z) = absurd (omega arith)
six q (loops a z) = z

-- ---- nothing live changes

-- catalogues that show worlds with the same live keys and pairs
same_live : (C D : Catalogue) (W X : World) → Shows C W → WGood W → Shows D X → WGood X → ((k : ℤ) → Vertices.live W.v k ≡ Vertices.live X.v k)
    → edges W ≡ edges X → live C ≡ live D
same_live C D W X s g t h p q =
    graph_path (λ k. series_is C W s g k ∙ p k ∙ sym (series_is D X t h k))
    (λ k l. derived_is C W s g k l ∙ ap (λ (f : ℤ → ℤ → Bool). f k l) q ∙ sym (derived_is D X t h k l))

-- an edge on trial is marked, which was not live
dropped_live : (C : Catalogue) (W : World) → Shows C W → WGood W → (e : ℕ) → 1 ≤ e → e < W.e.used → W.e.tag e ≡ transit
    → live (commit C (EdgeLink e (W.e.next e) 1)) ≡ live C
dropped_live C W s g e low high tried =
    same_live _ C (with_e W (retag W.e e marked)) W (shows_retag C W s e (low, high) marked)
    (deed_retag W g e e marked (record { low = low; high = high; plain = rw tried refl }) (λ q. refl) (λ q. clash (cc))).good s g (λ k. refl)
    (edges_drop W g e (λ q. clash (cc)))

module _ (workers : ℕ) (m : Moment) (X : Conf) (h : Held workers m X) (most : workers ≤ 8) (w : ℕ) (low : w < workers)
    (y : Replied m.catalogue m.table w 6) (z : Six m.catalogue (ahead (worker_at m.table w).reach) (place_of m w) y.write) where
  abbrev W : World
  W = X.world

  -- the pair and the own edge
  tried : let n = z.ends in Pair W n.pair.k n.pair.l n.u n.v × Own W.e n.pair.l n.u n.v z.e
  tried =
      let a = trying_spot workers m X h most w low z.ends z.e (shut z.is) in
      let ok : Ok W (at_trial z.ends z.e a.hunt) = rw a.is at (h.fine.ok w) in
      (ok.0, ok.1)

  unchanged : live (left m w) ≡ live m.catalogue
  unchanged =
      let own = tried.1 in
      let next : z.next ≡ W.e.next z.e = same_next (sym z.link ∙ h.shows.elinks z.e own.low own.high) in
      rw (y.leaves ∙ ap (commit m.catalogue) z.writes, next) (dropped_live m.catalogue W h.shows h.fine.good z.e own.low own.high own.tried)

  source_key : vertex_key m.catalogue z.ends.u ≡ z.ends.pair.k
  source_key = let p = tried.0.source in h.shows.vkeys z.ends.u p.high ∙ p.holds

  goal_key : vertex_key m.catalogue z.ends.v ≡ z.ends.pair.l
  goal_key = let p = tried.0.goal in h.shows.vkeys z.ends.v p.high ∙ p.holds

  -- the queue is not empty
  left_over : (worker_at m.table w).reach.front < (worker_at m.table w).reach.back
  left_over =
      let a = (trying_spot workers m X h most w low z.ends z.e (shut z.is)).keeps.queued.ordered in
      let d = z.some in
      omega arith

-- ---- the promise

pub cycle : Cycle
cycle workers choices g w low q =
    let n = length choices in
    let m : Moment = moment workers choices n in
    let end = at_end workers choices in
    let X = (run workers choices g n).0 in
    let h = (run workers choices g n).1 in
    let y = replied_by m.catalogue m.table w 6 (subst (λ (x : Moment). Replies x w 6) (sym end) q) in
    let z = six refl (rw y.decides at (fate m.catalogue (worker_at m.table w))) in
    let o = lasting workers choices g w low z.ends z.e n (shut z.is) in
    let c = known workers choices g w low z.ends z.e o.0 n o.1 n o.1.started (omega arith) in (
      record {
        ends = z.ends;
        e = z.e;
        there = subst (λ (x : Moment). place_of x w ≡ place.Trial z.ends z.e) end z.is;
        source = subst (λ (x : Moment). vertex_key x.catalogue z.ends.u ≡ z.ends.pair.k) end (source_key workers m X h g.most w low y z);
        goal = subst (λ (x : Moment). vertex_key x.catalogue z.ends.v ≡ z.ends.pair.l) end (goal_key workers m X h g.most w low y z);
        first = o.0;
        lasts = o.1;
        chain =
            subst (Crossed workers choices w z.ends z.e o.0 n) z.front_is
            (c.waiting (worker_at m.table w).reach.front (omega arith) (left_over workers m X h g.most w low y z));
      },
      subst (λ (x : Moment). live (left x w) ≡ live x.catalogue) end (unchanged workers m X h g.most w low y z),
    )
