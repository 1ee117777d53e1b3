-- A step of a trial is the machine's: the same marks, tags and met vertices decide both,
-- and the queue has room for any vertex met.
use Prim.Native.Nat.{ℕ}
use mathlib.Core.Bool.{Bool, true, false, cond, not, ◌&&◌, ◌||◌}
use mathlib.Core.List.{List, [], ◌∷◌}
use mathlib.Core.Path.{◌≡◌, refl, ◌∙◌}
use native.Mathlib.Omega.{arith}
use borrow.Author.Tests.{eqb-false, eq-eqb, ne_eqb, le-leb, lt-leb}
use lib.Dec.{eqb, leb}
use Rattle.catalogue.specs.Tests.{pick}
use Rattle.catalogue.specs.Catalogue.{Catalogue}
use Rattle.catalogue.specs.Steps.Decide.{decide}
use Rattle.catalogue.specs.Steps.Trial.{ends_fit, end_trial, cross, passed_or, pass_edge, step_open, take_front, step_shut, see_trial, trial_shut, trial_open}
use Rattle.catalogue.specs.declared.steps.BothSeen.TheVariants as both
use Rattle.catalogue.specs.declared.steps.Decision.{Decision}
use Rattle.catalogue.specs.declared.steps.Decision.TheVariants.{Torn, Keeps, Meets, Takes}
use Rattle.catalogue.specs.declared.workers.Place.{Place}
use Rattle.catalogue.specs.declared.workers.Worker.{Worker}
use Rattle.row.specs.Lists.Edges.{Tag, marked, transit, added, at, InList, Mine}
use Rattle.row.specs.Machine.World.{World, Opened, closed, opened, Hunt}
use Rattle.row.specs.Machine.Moves.{may_cross, crosses, hunt_open, hunt_take, hunts, move}
use Rattle.row.proofs.Tests.{or_false}
use Rattle.row.proofs.Graphs.Good.{WGood}
use Rattle.row.proofs.Steps.Spots.{Ok}
use Rattle.row.proofs.Steps.Hunting.{to_unmet}
use Rattle.promises.proofs.Showing.Shows.{Shows, Series, Hunted, Asked, Follows, trial_place, edge_tag_of, Allowed, at_trial}
use Rattle.promises.proofs.Showing.Tests.{pick_cond, pick_or}
use Rattle.promises.proofs.Showing.Marks.{mark_seen, both_seen, at_both_cond}
use Rattle.row.proofs.Lists.LinkLaws.{no_tail}
use Rattle.promises.proofs.Showing.Pools.{vertices_in_pool, series_of, target_series}
use Rattle.promises.proofs.Hunts.Hunting.{room_in_queue, none_left, some_left, front_is, front_series}
use Rattle.promises.proofs.Steps.Deciding.{FollowsAt, decides, follows_cond}
use Rattle.promises.proofs.Steps.TrialMoves.{keeps, meeting, taking, ending}
use Rattle.catalogue.specs.Workers.{ahead}
use Rattle.catalogue.specs.declared.workers.Ahead.{Ahead}
use Rattle.catalogue.specs.declared.workers.Ends.{Ends}

trial_keys : (ends : Ends) (e : ℕ) (o : Opened) → Asked (trial_place ends e o) → Allowed 4 ends.pair
trial_keys ends e closed a = a
trial_keys ends e (opened x c) a = a

-- the definition's test of a tag is the machine's
tag_crossed : (t : Tag) (c e : ℕ) (b : Bool) (x y : Decision) → passed_or (edge_tag_of t) y (cond b x y) ≡ cond (may_cross t c e && b) x y
tag_crossed marked c e b x y = refl
tag_crossed transit c e b x y = refl
tag_crossed added c e b x y = refl

module _ (C : Catalogue) (W : World) (s : Shows C W) (g : WGood W) (w : Worker) (ends : Ends) (e : ℕ) (h : Hunt)
    (ok : Ok W (at_trial ends e h)) (keys : Allowed 4 ends.pair) (r : Hunted W.v.used w.reach h) where
  abbrev used : ℕ
  used = W.v.used

  abbrev to : Opened → Place
  to = trial_place ends e

  abbrev a : Ahead
  a = ahead w.reach

  abbrev dead : Bool
  dead = W.v.marked ends.u || W.v.marked ends.v

  -- ---- what is decided

  cross_shown : (y : ℕ) → Series used y → (next : Place)
      → cross C a y next ≡ cond (not (W.v.marked y) && not (h.met y)) (Meets next y) (Keeps next)
  unfolding cross
  cross_shown y m next = mark_seen C W s y m _ _ _ ∙ rw (r.queued.met_same y (omega (arith, vertices_in_pool C W s))) (by (W.v.marked y) (h.met y) refl)
    where
      by : (m b : Bool) → h.met y ≡ b
          → pick m (Keeps next) (pick b (Keeps next) (pick (leb 256 a.back) Torn (Meets next y))) ≡ cond (not m && not b) (Meets next y) (Keeps next)
      by true b q = refl
      by false true q = refl
      by false false q = rw (lt-leb 256 a.back (room_in_queue used w.reach h r (vertices_in_pool C W s) y m q)) refl

  pass_shown : (x c : ℕ) → InList W.e x c → Series used (W.e.target c)
      → pass_edge C a ends e x c ≡ cond (crosses W e h c) (Meets (to (opened x (W.e.next c))) (W.e.target c)) (Keeps (to (opened x (W.e.next c))))
  unfolding pass_edge
  pass_shown x c i m =
      rw (s.elinks c i.low i.high, s.targets c i.low i.high, cross_shown (W.e.target c) m (to (opened x (W.e.next c))))
      (tag_crossed (W.e.tag c) c e (not (W.v.marked (W.e.target c)) && not (h.met (W.e.target c))) _ _)

  open_shown : (x c : ℕ) → Series used x
      → step_open C a ends e x c ≡ cond (W.v.marked x || eqb c 0) (Keeps (to closed)) (pass_edge C a ends e x c)
  unfolding step_open
  open_shown x c m = mark_seen C W s x m _ _ _ ∙ pick_or (W.v.marked x) (eqb c 0) _ _

  take_shown : (x : ℕ) → Series used x
      → take_front C ends e x ≡ cond (eqb x ends.u) (end_trial C e 1 6) (cond (W.v.marked x) (Takes (to closed)) (Takes (to (opened x (W.e.first x)))))
  unfolding take_front
  take_shown x m =
      rw (
        s.firsts x m.low m.high,
        mark_seen C W s x m Torn (Takes (to closed)) (Takes (to (opened x (W.e.first x)))),
        pick_cond (W.v.marked x) (Takes (to closed)) (Takes (to (opened x (W.e.first x)))),
      )
      (pick_cond (eqb x ends.u) _ _)

  -- after the marks of u and v
  abbrev rest_of : Opened → Decision
  rest_of closed = step_shut C a ends e
  rest_of (opened x c) = step_open C a ends e x c

  shut_empty : h.todo ≡ [] → rest_of closed ≡ end_trial C e 3 1
  unfolding step_shut
  shut_empty q = rw (eq-eqb a.front a.back (none_left used w.reach h r q)) refl

  shut_some : (x : ℕ) (xs : List ℕ) → h.todo ≡ x ∷ xs → rest_of closed ≡ take_front C ends e x
  unfolding step_shut
  shut_some x xs q =
      let left = some_left used w.reach h r x xs q in
      rw (ne_eqb a.front a.back (omega arith), front_is used w.reach h r x xs q) refl

  see_shown : see_trial C a ends ≡ cond dead both.Dead both.Standing
  unfolding see_trial ends_fit
  see_shown =
      rw (le-leb a.front a.back r.queued.ordered, le-leb a.back 256 r.queued.fits)
      (both_seen C W s ends.u ends.v (series_of ok.0.source) (series_of ok.0.goal))

  decide_trial : (o : Opened) → w.place ≡ to o → decide C w ≡ cond dead (end_trial C e 1 3) (rest_of o)
  unfolding trial_shut trial_open
  decide_trial closed p = (decides C w (to closed) p (rw p keys)).1 ∙ rw see_shown (at_both_cond dead _ _ _)
  decide_trial (opened x c) p = (decides C w (to (opened x c)) p (rw p keys)).1 ∙ rw see_shown (at_both_cond dead _ _ _)

  -- ---- what follows

  takes : (todo : List ℕ) → h.todo ≡ todo → decide C w ≡ rest_of closed → Follows C w (hunt_take W ends.pair.k ends.pair.l ends.u ends.v e h todo)
  takes [] q d = ending C W s w ends e ok.1.low ok.1.high added 1 (d ∙ shut_empty q)
  takes (x ∷ xs) q d =
      let m = front_series used w.reach h r x xs q in
      follows_cond C w (eqb x ends.u) _ _ _ _ (d ∙ shut_some x xs q ∙ take_shown x m)
      (λ b f. ending C W s w ends e ok.1.low ok.1.high marked 6 f)
      (λ b f. follows_cond C w (W.v.marked x) _ _ _ _ f
      (λ b f. taking C W s w ends e h keys r closed tt x xs q f)
      (λ b f. taking C W s w ends e h keys r (opened x (W.e.first x)) m x xs q f))

  opens : (x c : ℕ) → Series used x → Mine W.e x (at c) → decide C w ≡ rest_of (opened x c) → Follows C w (hunt_open W ends.pair.k ends.pair.l ends.u ends.v e h x c)
  opens x c m i d =
      follows_cond C w (W.v.marked x || eqb c 0) _ _ _ _ (d ∙ open_shown x c m)
      (λ b f. keeps C W s w ends e h keys r closed tt f)
      (λ b f.
      let j = no_tail W.e x c i (eqb-false c 0 (or_false (W.v.marked x) (eqb c 0) b).1) in
      let y = W.e.target c in
      let n = target_series W g c j.low j.high in
      follows_cond C w (crosses W e h c) _ _ _ _ (f ∙ pass_shown x c j n)
      (λ b f. meeting C W s w ends e h keys r (opened x (W.e.next c)) m y n (to_unmet W e h c b).1 f)
      (λ b f. keeps C W s w ends e h keys r (opened x (W.e.next c)) m f))

  goes_on : (o : Opened) → h.stand ≡ o → decide C w ≡ rest_of o → Follows C w (hunts W ends.pair.k ends.pair.l ends.u ends.v e h o)
  goes_on closed q d = takes h.todo refl d
  goes_on (opened x c) q d = opens x c (rw q at r.open_series) (rw q at ok.2.place) d

  steps : w.place ≡ to h.stand → Follows C w (move W (at_trial ends e h))
  steps p =
      follows_cond C w dead _ _ _ _ (decide_trial h.stand p)
      (λ b f. ending C W s w ends e ok.1.low ok.1.high marked 3 f)
      (λ b f. goes_on h.stand refl f)

pub trial_follows : (ends : Ends) (e : ℕ) (h : Hunt) → FollowsAt (at_trial ends e h)
trial_follows ends e h C W s g w ok shown =
    let p = shown.stands.0 in
    steps C W s g w ends e h ok (trial_keys ends e h.stand (rw p at shown.asked)) shown.stands.1 p
