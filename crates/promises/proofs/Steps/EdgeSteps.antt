-- One step of AddE and RemE at p and c is one move of the machine.
use Prim.Native.Nat.{ℕ, ◌≤◌, ◌<◌}
use mathlib.Core.Bool.{Bool, true, false}
use mathlib.Core.Path.{◌≡◌, refl}
use Rattle.catalogue.specs.Catalogue.{Catalogue}
use Rattle.catalogue.specs.Writes.{commit}
use Rattle.catalogue.specs.Steps.Places.{edge_place}
use Rattle.catalogue.specs.Steps.Edges.{relink, restart, decide_edge, look_at_edge, step_edge}
use Rattle.catalogue.specs.Steps.Decide.{decide}
use Rattle.catalogue.specs.declared.steps.Decision.{Decision}
use Rattle.catalogue.specs.declared.steps.Decision.TheVariants.{Going}
use Rattle.catalogue.specs.declared.steps.EdgeSeen.{EdgeSeen}
use Rattle.catalogue.specs.declared.workers.Ends.{Ends}
use Rattle.catalogue.specs.declared.workers.Place.TheVariants as place
use Rattle.catalogue.specs.declared.workers.Worker.{Worker}
use Rattle.catalogue.specs.declared.writes.Write.{Write}
use Rattle.catalogue.specs.declared.writes.Write.TheVariants as write
use Rattle.row.specs.Lists.Edges.{marked, Prev, head, at, eunlink, retag}
use Rattle.row.specs.Machine.World.{World, goes, with_e}
use Rattle.row.specs.Machine.Moves.{ESeen, look_e}
use Rattle.promises.proofs.Showing.Shows.{Shows, Series, Allowed, Shown, Follows, prev_of, at_look}
use Rattle.promises.proofs.Showing.Pools.{series_of}
use Rattle.promises.proofs.Showing.EdgeLinks.{Behind, tag_behind, first_fits, next_fits, shows_retag, shows_unlink}
use Rattle.promises.proofs.Steps.Deciding.{FollowsAt, decides, goes_on, unwritten, says_so}
use Rattle.promises.proofs.Steps.EdgeLooks.{Sees, dead, again, passes, marks, onward, equal, other, aims_behind, sees}
use Rattle.promises.proofs.Steps.EdgeSettles.{edge_code, settles_other, settles_equal}

module _ (C : Catalogue) (w : Worker) (ends : Ends) where
  abbrev Decides : Decision → Type 0
  Decides d = decide C w ≡ d

  stands_look : (used : ℕ) (b : Bool) (p : Prev) (c : ℕ) → Shown used w (at_look b ends p c)
      → Allowed (edge_code b) ends.pair × Decides (step_edge C (edge_code b) ends (prev_of p) c) × (c < 2048)
  stands_look used true p c n = let d = decides C w (place.AddE ends (prev_of p) c) n.stands.0 n.asked in (d.0, d.1, n.stands.1)
  stands_look used false p c n = let d = decides C w (place.RemE ends (prev_of p) c) n.stands.0 n.asked in (d.0, d.1, n.stands.1)

  -- to another look
  looks_on : (b : Bool) → Allowed (edge_code b) ends.pair → (X : World) (written : Write) → Shows (commit C written) X → (p : Prev) (c : ℕ) → c < 2048
      → Decides (Going (edge_place (edge_code b) ends (prev_of p) c) written) → Follows C w (goes X (at_look b ends p c))
  unfolding edge_place
  looks_on true a X written x p c h d = goes_on C w X written x (place.AddE ends (prev_of p) c) (at_look true ends p c) d a (refl, h)
  looks_on false a X written x p c h d = goes_on C w X written x (place.RemE ends (prev_of p) c) (at_look false ends p c) d a (refl, h)

  -- ---- what follows from what was seen

  module _ (W : World) (s : Shows C W) (some : 1 ≤ W.e.used) (p : Prev) (c : ℕ) (fits : c < 2048)
      (source : Series W.v.used ends.u) (goal : Series W.v.used ends.v) (behind : Behind W.e.used p) (b : Bool) (a : Allowed (edge_code b) ends.pair) where
    abbrev kept : ℕ
    kept = tag_behind W.e.tag p

    restarts : Decides (restart C (edge_code b) ends) → Follows C w (goes W (at_look b ends head (W.e.first ends.u)))
    unfolding restart
    restarts d =
        looks_on b a W write.Nothing (unwritten C W s) head (W.e.first ends.u) (first_fits C W s ends.u source)
        (rw (s.firsts ends.u source.low source.high) at d)

    decided : (x : EdgeSeen) (y : ESeen) → Sees W ends.pair.l ends.u p c x y → Decides (decide_edge C (edge_code b) ends (prev_of p) c x)
        → Follows C w (look_e W b ends.pair.k ends.pair.l ends.u ends.v p c y)
    decided x y dead d = says_so C W s w 3 d
    decided x y again d = restarts d
    decided x y (passes lead o) d =
        looks_on b a (with_e W (eunlink W.e ends.u p)) (relink ends.u (prev_of p) kept (W.e.next c)) (shows_unlink C W s ends.u p c behind lead o)
        p (W.e.next c) (next_fits C W s c o) d
    decided x y (marks o) d =
        looks_on b a (with_e W (retag W.e c marked)) (write.EdgeLink c (W.e.next c) 1) (shows_retag C W s c o marked) p c fits d
    decided x y (onward o) d = looks_on b a W write.Nothing (unwritten C W s) (at c) (W.e.next c) (next_fits C W s c o) d
    decided x y (equal lead o e t f m) d = settles_equal C W s some w ends p c fits goal behind b o t f m e d
    decided x y (other lead e next tag) d = settles_other C W s some w ends p c fits goal behind b a lead e next tag d

pub look_follows : (b : Bool) (ends : Ends) (p : Prev) (c : ℕ) → FollowsAt (at_look b ends p c)
unfolding step_edge
look_follows b ends p c C W s g w o n =
    let d = stands_look C w ends W.v.used b p c n in
    let source = series_of o.0.source in
    let goal = series_of o.0.goal in
    decided C w ends W s g.esound.some p c d.2 source goal (aims_behind W ends.u ends.pair.l p o.1) b d.0
    (look_at_edge C ends (prev_of p) c) _ (sees C W s g ends.pair.l ends.u p c o.0.legal o.1 ends.pair.k ends.v d.2 source goal) d.1
