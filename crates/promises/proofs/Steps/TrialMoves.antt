-- The four things that a step of a trial may do, each beside the machine's:
-- keep what it has, meet a vertex, take the front of the queue, end.
use Prim.Native.Nat.{ℕ, ◌≤◌, ◌<◌}
use mathlib.Core.Bool.{false}
use mathlib.Core.List.{List, ◌∷◌}
use mathlib.Core.Path.{◌≡◌, refl}
use Rattle.catalogue.specs.Catalogue.{Catalogue}
use Rattle.catalogue.specs.Workers.{meet, take_one}
use Rattle.catalogue.specs.Writes.{commit}
use Rattle.catalogue.specs.Steps.Trial.{end_trial}
use Rattle.catalogue.specs.Steps.Decide.{decide}
use Rattle.catalogue.specs.declared.steps.Decision.TheVariants as decision
use Rattle.catalogue.specs.declared.workers.Ends.{Ends}
use Rattle.catalogue.specs.declared.workers.Place.{Place}
use Rattle.catalogue.specs.declared.workers.Reach.{Reach}
use Rattle.catalogue.specs.declared.workers.Worker.{Worker}
use Rattle.catalogue.specs.declared.writes.Write.TheVariants.{EdgeLink}
use Rattle.row.specs.Lists.Edges.{Tag, retag}
use Rattle.row.specs.Machine.World.{World, with_e, Opened, closed, opened, Hunt, stands_at, meets, took, goes, says}
use Rattle.promises.proofs.Showing.Shows.{Shows, Series, Open, Hunted, Asked, Allowed, Shown, Follows, edge_tag_of, trial_place, at_trial}
use Rattle.promises.proofs.Showing.Pools.{vertices_in_pool}
use Rattle.promises.proofs.Showing.EdgeLinks.{shows_retag}
use Rattle.promises.proofs.Hunts.Hunting.{hunted_meets, hunted_takes}
use Rattle.promises.proofs.Steps.Deciding.{says_with}

module _ (C : Catalogue) (W : World) (s : Shows C W) (w : Worker) (ends : Ends) (e : ℕ) where
  abbrev to : Opened → Place
  to = trial_place ends e

  module _ (h : Hunt) (keys : Allowed 4 ends.pair) (r : Hunted W.v.used w.reach h) where
    asked : (o : Opened) → Asked (to o)
    asked closed = keys
    asked (opened x c) = keys

    -- the record at another place of the trial
    moved : (r : Reach) (g : Hunt) → Hunted W.v.used r g → Shown W.v.used (record { place = to g.stand; reach = r }) (at_trial ends e g)
    moved r g x = record { asked = asked g.stand; stands = (refl, x) }

    pub keeps : (o : Opened) → Open W.v.used o → decide C w ≡ decision.Keeps (to o) → Follows C w (goes W (at_trial ends e (stands_at h o)))
    unfolding commit
    keeps o stand d =
        let x = moved w.reach (stands_at h o) (record { queued = r.queued; searched = r.searched; open_series = stand }) in
        record { decision = decision.Keeps (to o); decides = d; sure = tt; world = s; spot = x; reply = refl }

    pub meeting : (o : Opened) → Open W.v.used o → (y : ℕ) → Series W.v.used y → h.met y ≡ false → decide C w ≡ decision.Meets (to o) y
        → Follows C w (goes W (at_trial ends e (meets h y o)))
    unfolding commit
    meeting o stand y m n d =
        let x = moved (meet w.reach y) (meets h y o) (hunted_meets W.v.used w.reach h r (vertices_in_pool C W s) y m n o stand) in
        record { decision = decision.Meets (to o) y; decides = d; sure = tt; world = s; spot = x; reply = refl }

    pub taking : (o : Opened) → Open W.v.used o → (x : ℕ) (xs : List ℕ) → h.todo ≡ x ∷ xs → decide C w ≡ decision.Takes (to o)
        → Follows C w (goes W (at_trial ends e (took h x xs o)))
    unfolding commit
    taking o stand x xs q d =
        let y = moved (take_one w.reach) (took h x xs o) (hunted_takes W.v.used w.reach h r x xs q (vertices_in_pool C W s) o stand) in
        record { decision = decision.Takes (to o); decides = d; sure = tt; world = s; spot = y; reply = refl }

  pub ending : 1 ≤ e → e < W.e.used → (t : Tag) (n : ℕ) → decide C w ≡ end_trial C e (edge_tag_of t) n → Follows C w (says (with_e W (retag W.e e t)) n)
  unfolding end_trial
  ending low high t n d =
      says_with C w (with_e W (retag W.e e t)) (EdgeLink e (W.e.next e) (edge_tag_of t)) (shows_retag C W s e (low, high) t) n (rw (s.elinks e low high) at d)
