-- A step at a known place decides by that place; a decision to go on, or to reply, is a move of the machine.
use Prim.Native.Nat.{ℕ}
use mathlib.Core.Bool.{Bool, true, false, cond}
use mathlib.Core.Path.{◌≡◌, refl}
use Rattle.catalogue.specs.Tests.{eq_z}
use Rattle.catalogue.specs.Numbers.{reserved}
use Rattle.catalogue.specs.Catalogue.{Catalogue}
use Rattle.catalogue.specs.Workers.{idle, bare, ahead}
use Rattle.catalogue.specs.Writes.{commit}
use Rattle.catalogue.specs.Steps.Places.{key_refused}
use Rattle.catalogue.specs.Steps.Decide.{decide, decide_at, step_at}
use Rattle.catalogue.specs.declared.steps.Decision.{Decision}
use Rattle.catalogue.specs.declared.steps.Decision.TheVariants as decision
use Rattle.catalogue.specs.declared.workers.Place.{Place}
use Rattle.catalogue.specs.declared.workers.Worker.{Worker}
use Rattle.catalogue.specs.declared.writes.Write.{Write}
use Rattle.catalogue.specs.declared.writes.Write.TheVariants.{Nothing}
use Rattle.row.proofs.Steps.Spots.{Ok}
use Rattle.row.proofs.Graphs.Good.{WGood}
use Rattle.row.specs.Machine.World.{World, Spot, Rest, Next, goes, says}
use Rattle.row.specs.Machine.Moves.{move}
use Rattle.promises.proofs.Showing.Shows.{Shows, Stands, Asked, Shown, Follows}

-- One step at a spot is one move, of any worker that stands there in a good world.
abbrev pub FollowsAt : Spot → Type 0
FollowsAt spot = (C : Catalogue) (W : World) → Shows C W → WGood W → (w : Worker) → Ok W spot → Shown W.v.used w spot → Follows C w (move W spot)

-- what a worker decides at a place with allowed keys
abbrev pub step_of : Catalogue → Worker → Place → Decision
step_of C w pl = step_at C pl (ahead w.reach)

pub decides : (C : Catalogue) (w : Worker) (pl : Place) → w.place ≡ pl → Asked w.place → Asked pl × (decide C w ≡ step_of C w pl)
unfolding decide_at
decides C w pl e a = let b = rw e at a in (b, rw (e, b))

-- a worker that has replied
pub rests : (used : ℕ) → Shown used idle Rest
unfolding key_refused reserved eq_z
rests used = record { asked = refl; stands = refl }

module _ (C : Catalogue) (w : Worker) (X : World) (write : Write) (shows : Shows (commit C write) X) where
  pub goes_on : (pl : Place) (spot : Spot) → decide C w ≡ decision.Going pl write → Asked pl → Stands X.v.used (bare pl) spot → Follows C w (goes X spot)
  goes_on pl spot d a t =
      record { decision = decision.Going pl write; decides = d; sure = tt; world = shows; spot = record { asked = a; stands = t }; reply = refl }

  pub says_with : (r : ℕ) → decide C w ≡ decision.Reply r write → Follows C w (says X r)
  says_with r d =
      record { decision = decision.Reply r write; decides = d; sure = tt; world = shows; spot = rests X.v.used; reply = refl }

-- Where nothing is written, nothing changes.
pub unwritten : (C : Catalogue) (W : World) → Shows C W → Shows (commit C Nothing) W
unfolding commit
unwritten C W s = s

module _ (C : Catalogue) (W : World) (s : Shows C W) (w : Worker) where
  pub walks_on : (pl : Place) (spot : Spot) → decide C w ≡ decision.Going pl Nothing → Asked pl → Stands W.v.used (bare pl) spot → Follows C w (goes W spot)
  walks_on = goes_on C w W Nothing (unwritten C W s)

  pub says_so : (r : ℕ) → decide C w ≡ decision.Reply r Nothing → Follows C w (says W r)
  says_so = says_with C w W Nothing (unwritten C W s)

-- a decision by the machine's own test follows the machine where it does on both sides
pub follows_cond : (C : Catalogue) (w : Worker) (b : Bool) (d f : Decision) (n m : Next) → decide C w ≡ cond b d f
    → (b ≡ true → decide C w ≡ d → Follows C w n) → (b ≡ false → decide C w ≡ f → Follows C w m) → Follows C w (cond b n m)
follows_cond C w true d f n m e yes' no' = yes' refl e
follows_cond C w false d f n m e yes' no' = no' refl e
