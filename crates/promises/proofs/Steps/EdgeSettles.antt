-- How AddE and RemE settle at c, whose key is not below theirs.
use Prim.Native.Nat.{ℕ, ◌≤◌, ◌<◌}
use mathlib.Core.Bool.{Bool, true, false}
use mathlib.Core.Path.{◌≡◌, refl}
use mathlib.Core.Logic.{◌⊎◌, inl, inr}
use native.Mathlib.Omega.{arith}
use borrow.Author.Tests.{le-leb, lt-leb}
use Rattle.catalogue.specs.Tests.{eq_z}
use Rattle.catalogue.specs.Catalogue.{Catalogue}
use Rattle.catalogue.specs.Steps.Edges.{landed, insert, settle_add_edge, settle_remove_edge, settle_edge}
use Rattle.catalogue.specs.Steps.Decide.{decide}
use Rattle.catalogue.specs.declared.steps.Decision.TheVariants.{Begins}
use Rattle.catalogue.specs.declared.workers.Ends.{Ends}
use Rattle.catalogue.specs.declared.workers.Place.TheVariants as place
use Rattle.catalogue.specs.declared.workers.Worker.{Worker}
use Rattle.catalogue.specs.declared.writes.Write.TheVariants as write
use Rattle.laws.proofs.Picks.{clash}
use Rattle.row.proofs.Base.{lt_or}
use Rattle.row.specs.Lists.Edges.{Tag, marked, transit, added, Prev, is_marked, link, einsert, retag}
use Rattle.row.specs.Machine.World.{World, goes, hunt_from, with_e}
use Rattle.row.specs.Machine.Moves.{settles}
use Rattle.promises.proofs.Showing.Shows.{Shows, Series, Allowed, Follows, prev_of, edge_tag_of, at_trial}
use Rattle.promises.proofs.Showing.Pools.{room_left, room_full, vertices_in_pool}
use Rattle.promises.proofs.Showing.EdgeLinks.{Out, Behind, tag_behind, shows_retag}
use Rattle.promises.proofs.Showing.EdgeInsert.{shows_insert}
use Rattle.promises.proofs.Hunts.Hunting.{hunted_begun}
use Rattle.promises.proofs.Steps.Deciding.{says_with, says_so}

-- AddE's code, and RemE's
abbrev pub edge_code : Bool → ℕ
edge_code true = 4
edge_code false = 5

module _ (C : Catalogue) (W : World) (s : Shows C W) (some : 1 ≤ W.e.used) (w : Worker) (ends : Ends) (p : Prev) (c : ℕ) (fits : c < 2048)
    (goal : Series W.v.used ends.v) (behind : Behind W.e.used p) where
  abbrev kept : ℕ
  kept = tag_behind W.e.tag p

  abbrev Settles : Bool → Type 0
  Settles b = Follows C w (settles b W ends.pair.k ends.pair.l ends.u ends.v p c)

  -- ---- settling, for AddE

  -- the edge is put in, and its trial begins
  begins : Allowed 4 ends.pair → link W.e ends.u p ≡ c → W.e.used < 2048
      → decide C w ≡ Begins (place.Trial ends W.e.used) (insert ends (prev_of p) kept W.e.used c) ends.v
      → Follows C w (goes (with_e W (einsert W.e ends.u ends.v ends.pair.l p)) (at_trial ends W.e.used (hunt_from ends.v)))
  begins a lead left d = record {
    decision = Begins (place.Trial ends W.e.used) (insert ends (prev_of p) kept W.e.used c) ends.v;
    decides = d;
    sure = tt;
    world = shows_insert C W s some left ends p c (omega (arith, goal.high, vertices_in_pool C W s)) behind lead fits;
    spot = record { asked = a; stands = (refl, hunted_begun W.v.used (vertices_in_pool C W s) ends.v goal) };
    reply = refl;
  }

  adds_new : Allowed 4 ends.pair → link W.e ends.u p ≡ c → eq_z (W.e.key c) ends.pair.l ≡ false → (next tag : ℕ)
      → decide C w ≡ settle_add_edge C ends (prev_of p) c (landed kept next tag false) → Settles true
  unfolding settle_add_edge
  adds_new a lead e next tag d = by (lt_or C.counts.edges 2047)
    where
      by : (C.counts.edges < 2047) ⊎ (2047 ≤ C.counts.edges) → Settles true
      by (inl h) =
          rw (e, lt-leb 2048 W.e.used (omega (arith, s.edges)))
          (begins a lead (omega (arith, s.edges)) (rw (room_left 2047 1 C.counts.edges h, ← s.edges) at d))
      by (inr h) =
          rw (e, le-leb 2048 W.e.used (omega (arith, s.edges)))
          (says_so C W s w 9 (rw (room_full 2047 1 C.counts.edges s.edges_fit h) at d))

  adds_known : (t : Tag) → W.e.tag c ≡ t → is_marked t ≡ false → eq_z (W.e.key c) ends.pair.l ≡ true
      → decide C w ≡ settle_add_edge C ends (prev_of p) c (landed kept (W.e.next c) (edge_tag_of t) true) → Settles true
  unfolding settle_add_edge
  adds_known marked f m e d = clash (cc)
  adds_known transit f m e d = rw (e, f) (says_so C W s w 7 d)
  adds_known added f m e d = rw (e, f) (says_so C W s w 4 d)

  -- ---- settling, for RemE

  removes_none : eq_z (W.e.key c) ends.pair.l ≡ false → (next tag : ℕ) → decide C w ≡ settle_remove_edge c (landed kept next tag false) → Settles false
  unfolding settle_remove_edge
  removes_none e next tag d = rw e (says_so C W s w 5 d)

  removes_known : Out W.e.used c → (t : Tag) → W.e.tag c ≡ t → is_marked t ≡ false → eq_z (W.e.key c) ends.pair.l ≡ true
      → decide C w ≡ settle_remove_edge c (landed kept (W.e.next c) (edge_tag_of t) true) → Settles false
  unfolding settle_remove_edge
  removes_known o marked f m e d = clash (cc)
  removes_known o transit f m e d = rw (e, f) (says_so C W s w 5 d)
  removes_known o added f m e d =
      rw (e, f) (says_with C w (with_e W (retag W.e c marked)) (write.EdgeLink c (W.e.next c) 1) (shows_retag C W s c o marked) 1 d)

  -- ---- either

  pub settles_other : (b : Bool) → Allowed (edge_code b) ends.pair → link W.e ends.u p ≡ c → eq_z (W.e.key c) ends.pair.l ≡ false → (next tag : ℕ)
      → decide C w ≡ settle_edge C (edge_code b) ends (prev_of p) c (landed kept next tag false) → Settles b
  unfolding settle_edge
  settles_other true a lead e next tag d = adds_new a lead e next tag d
  settles_other false a lead e next tag d = removes_none e next tag d

  pub settles_equal : (b : Bool) → Out W.e.used c → (t : Tag) → W.e.tag c ≡ t → is_marked t ≡ false → eq_z (W.e.key c) ends.pair.l ≡ true
      → decide C w ≡ settle_edge C (edge_code b) ends (prev_of p) c (landed kept (W.e.next c) (edge_tag_of t) true) → Settles b
  unfolding settle_edge
  settles_equal true o t f m e d = adds_known t f m e d
  settles_equal false o t f m e d = removes_known o t f m e d
