-- Every decision that is made of a record can be carried out on it: `decide_follows`.
-- One lemma for each definition, by its cases.
use Prim.Native.Nat.{ℕ, ◌<◌, ◌≤◌}
use mathlib.Core.Bool.{Bool, false}
use mathlib.Core.Path.{◌≡◌, refl}
use native.Mathlib.Omega.{arith}
use borrow.Author.Tests.{ltb-true, leb-true, leb-false, eqb-false}
use lib.IntN.{ℤ}
use lib.Signed.{lt_z}
use lib.Dec.{eqb, leb, ltb}
use Rattle.catalogue.specs.Tests.{pick, eq_z}
use Rattle.catalogue.specs.Numbers.{room, head, edge_pool, some_link}
use Rattle.catalogue.specs.Catalogue.{Catalogue, vertex_link, first_link, edge_key, edge_link, edge_target, at_mark}
use Rattle.catalogue.specs.Workers.{has, request_of, ahead}
use Rattle.catalogue.specs.Steps.Places.{key_refused}
use Rattle.catalogue.specs.Steps.Both.{see_both, at_both}
use Rattle.catalogue.specs.Steps.Vertices.{new_vertex, settle_add_vertex, settle_remove_vertex, settle_vertex, start_again, decide_vertex, look_at_vertex, step_vertex}
use Rattle.catalogue.specs.Steps.Finding.{decide_contains, decide_find_u, decide_find_v, look_for, found_u, found_v, step_contains, step_find_u, step_find_v}
use Rattle.catalogue.specs.Steps.Contains.{settle_contains_edge, step_contains_edge}
use Rattle.catalogue.specs.Steps.Edges.{link_behind, see_key, see_edge, see_behind, look_at_edge, new_edge, settle_add_edge, settle_remove_edge, settle_edge, restart, decide_edge, step_edge}
use Rattle.catalogue.specs.Steps.Trial.{ends_fit, see_trial, end_trial, cross, pass_edge, step_open, take_front, step_shut, trial_shut, trial_open}
use Rattle.catalogue.specs.Steps.Decide.{step_at, decide_at, decide}
use Rattle.std.proofs.Common.{Option}
use Rattle.catalogue.specs.declared.links.Link.{Link}
use Rattle.catalogue.specs.declared.links.Room.{Room}
use Rattle.catalogue.specs.declared.links.Room.TheVariants as room
use Rattle.catalogue.specs.declared.workers.Ahead.{Ahead}
use Rattle.catalogue.specs.declared.workers.Ends.{Ends}
use Rattle.catalogue.specs.declared.workers.Pair.{Pair}
use Rattle.catalogue.specs.declared.workers.Place.{Place}
use Rattle.catalogue.specs.declared.workers.Place.TheVariants.{Idle, AddV, RemV, ConV, AddEFindU, RemEFindU, ConEFindU, AddEFindV, RemEFindV, ConEFindV, AddE, RemE, ConE, Trial, TrialOpen}
use Rattle.catalogue.specs.declared.workers.Prev.{Prev}
use Rattle.catalogue.specs.declared.workers.Prev.TheVariants.{First, Edge}
use Rattle.catalogue.specs.declared.workers.Worker.{Worker}
use Rattle.catalogue.specs.declared.steps.BothSeen.{BothSeen}
use Rattle.catalogue.specs.declared.steps.BothSeen.TheVariants as both
use Rattle.catalogue.specs.declared.steps.VertexSeen.{VertexSeen}
use Rattle.catalogue.specs.declared.steps.VertexSeen.TheVariants as seen
use Rattle.catalogue.specs.declared.steps.VertexFound.{VertexFound}
use Rattle.catalogue.specs.declared.steps.VertexFound.TheVariants as found
use Rattle.catalogue.specs.declared.steps.Landed.{Landed}
use Rattle.catalogue.specs.declared.steps.EdgeSeen.{EdgeSeen}
use Rattle.catalogue.specs.declared.steps.EdgeSeen.TheVariants as sees
use Rattle.catalogue.specs.declared.steps.Decision.{Decision}
use Rattle.laws.proofs.Picks.{clash, both_true, pick_both, link_both, target_both}
use Rattle.steps.specs.Follows.{Follows}
use Rattle.laws.proofs.Pools.{edge_in_pool, Handed, handed}

-- what follows from the look at u and v, and from a mark
both_both : {A : Type 0} (P : A → Type 0) (l : BothSeen) (torn dead standing : A) → P torn → P dead → (l ≡ both.Standing → P standing) → P (at_both l torn dead standing)
both_both P both.Torn torn dead standing t d s = t
both_both P both.Dead torn dead standing t d s = d
both_both P both.Standing torn dead standing t d s = s refl

mark_both : {A : Type 0} (P : A → Type 0) (l : Option (Link ℕ)) (torn dead live : A) → P torn → P dead → P live → P (at_mark l torn dead live)
mark_both P l torn dead live t d s = link_both P l torn _ t (λ next tag e. pick_both P (eqb tag 1) dead live (λ h. d) (λ h. s))

-- ---- what an edge look sees: numbers in their pool, where they are written to

abbrev Behind : Prev → Type 0
Behind First = Unit {0}
Behind (Edge p) = p < edge_pool

abbrev Sees : Prev → ℕ → EdgeSeen → Type 0
Sees p c sees.Torn = Unit {0}
Sees p c sees.Dead = Unit {0}
Sees p c sees.Again = Unit {0}
Sees p c (sees.Unlinks kept next) = Behind p
Sees p c (sees.Marks next) = c < edge_pool
Sees p c (sees.Onward next) = Unit {0}
Sees p c (sees.Settles at) = Behind p × (c < edge_pool)

behind : (C : Catalogue) (u to tag : ℕ) (p : Prev) → link_behind C u p ≡ some_link to tag → Behind p
behind C u to tag First e = tt
behind C u to tag (Edge p) e = edge_in_pool C.edges.link p _ (edge_link C p) refl e

module _ (C : Catalogue) (l : ℤ) (p : Prev) (c : ℕ) (b : Behind p) (h : c < edge_pool) where
  see_key_sees : (kept next tag : ℕ) → Sees p c (see_key C l c kept next tag)
  unfolding see_key
  see_key_sees kept next tag =
      pick_both (Sees p c) (lt_z (edge_key C c) l) _ _ (λ e. tt)
      (λ e. pick_both (Sees p c) (eq_z (edge_key C c) l) _ _ (λ f. (b, h)) (λ f. (b, h)))

  see_edge_sees : (kept : ℕ) → Sees p c (see_edge C l c kept)
  unfolding see_edge
  see_edge_sees kept =
      pick_both (Sees p c) (eqb c 0) _ _ (λ e. see_key_sees kept 0 0)
      (λ e. link_both (Sees p c) (edge_link C c) _ _ tt
      (λ next tag f. pick_both (Sees p c) (eqb tag 1) _ _ (λ g. b)
      (λ g. pick_both (Sees p c) (eqb tag 3) _ _
      (λ a. target_both (Sees p c) (edge_target C c) _ _ tt (λ y t. mark_both (Sees p c) (vertex_link C y) _ _ _ tt h (see_key_sees kept next tag)))
      (λ a. see_key_sees kept next tag))))

look_sees : (C : Catalogue) (ends : Ends) (p : Prev) (c : ℕ) → Sees p c (look_at_edge C ends p c)
unfolding look_at_edge see_behind
look_sees C ends p c =
    both_both (Sees p c) (see_both C ends.u ends.v) _ _ _ tt tt
    (λ s. link_both (Sees p c) (link_behind C ends.u p) _ _ tt
    (λ to tag e. pick_both (Sees p c) (eqb tag 1) _ _ (λ f. tt)
    (λ f. pick_both (Sees p c) (ltb c 2048) _ _
    (λ g. pick_both (Sees p c) (eqb to c) _ _
    (λ a. see_edge_sees C ends.pair.l p c (behind C ends.u to tag p e) (ltb-true c 2048 g) tag)
    (λ a. tt))
    (λ g. tt))))

-- the queue's ends are in order where a trial goes on
ends_in_order : (C : Catalogue) (a : Ahead) (ends : Ends) → see_trial C a ends ≡ both.Standing → (a.front ≤ a.back) × (a.back ≤ 256)
unfolding see_trial ends_fit
ends_in_order C a ends e =
    pick_both (λ b. b ≡ both.Standing → (a.front ≤ a.back) × (a.back ≤ 256)) (pick (leb a.front a.back) (leb a.back 256) false) _ _
    (λ t. λ s. let h = both_true (leb a.front a.back) (leb a.back 256) t in (leb-true _ _ h.0, leb-true _ _ h.1)) (λ t. λ s. clash (cc)) e

-- ---- the decisions, file by file

module _ (C : Catalogue) (w : Worker) where
  abbrev Ok : Decision → Type 0
  Ok = Follows w

  abbrev a : Ahead
  a = ahead w.reach

  new_vertex_ok : (k : ℤ) (p c : ℕ) (r : Room) → Handed 254 2 r → Ok (new_vertex r k p c)
  new_vertex_ok k p c (room.Next n) h = h.0
  new_vertex_ok k p c room.Full h = tt
  new_vertex_ok k p c room.Torn h = tt

  settle_vertex_ok : (code : ℕ) (k : ℤ) (p c next : ℕ) (equal : Bool) → Ok (settle_vertex C code k p c next equal)
  unfolding settle_vertex settle_add_vertex settle_remove_vertex
  settle_vertex_ok code k p c next equal =
      pick_both Ok (eqb code 1) _ _
      (λ e. pick_both Ok equal _ _ (λ f. tt) (λ f. new_vertex_ok k p c (room 254 2 C.counts.vertices) (handed 254 2 C.counts.vertices)))
      (λ e. pick_both Ok (eqb code 2) _ _ (λ f. pick_both Ok equal _ _ (λ g. tt) (λ g. tt)) (λ f. tt))

  decide_vertex_ok : (code : ℕ) (k : ℤ) (p c : ℕ) (s : VertexSeen) → Ok (decide_vertex C code k p c s)
  unfolding start_again
  decide_vertex_ok code k p c seen.Torn = tt
  decide_vertex_ok code k p c seen.Again = link_both Ok (vertex_link C head) _ _ tt (λ first tag e. tt)
  decide_vertex_ok code k p c (seen.Unlinks next) = tt
  decide_vertex_ok code k p c (seen.Onward next) = tt
  decide_vertex_ok code k p c (seen.Settles next equal) = settle_vertex_ok code k p c next equal

  decide_contains_ok : (k : ℤ) (s : VertexFound) → Ok (decide_contains k s)
  decide_contains_ok k found.Torn = tt
  decide_contains_ok k (found.Onward next) = tt
  decide_contains_ok k found.Found = tt
  decide_contains_ok k found.Missing = tt

  decide_find_u_ok : (code : ℕ) (pair : Pair) (c : ℕ) (s : VertexFound) → Ok (decide_find_u C code pair c s)
  unfolding found_u
  decide_find_u_ok code pair c found.Torn = tt
  decide_find_u_ok code pair c (found.Onward next) = tt
  decide_find_u_ok code pair c found.Found = link_both Ok (vertex_link C head) _ _ tt (λ first tag e. tt)
  decide_find_u_ok code pair c found.Missing = tt

  decide_find_v_ok : (code : ℕ) (pair : Pair) (u c : ℕ) (s : VertexFound) → Ok (decide_find_v C code pair u c s)
  unfolding found_v
  decide_find_v_ok code pair u c found.Torn = tt
  decide_find_v_ok code pair u c (found.Onward next) = tt
  decide_find_v_ok code pair u c found.Found = link_both Ok (first_link C u) _ _ tt (λ first tag e. tt)
  decide_find_v_ok code pair u c found.Missing = tt

  step_contains_edge_ok : (ends : Ends) (c : ℕ) → Ok (step_contains_edge C ends c)
  unfolding step_contains_edge settle_contains_edge
  step_contains_edge_ok ends c =
      pick_both Ok (ltb c 2048) _ _
      (λ e. pick_both Ok (lt_z (edge_key C c) ends.pair.l) _ _ (λ f. link_both Ok (edge_link C c) _ _ tt (λ next tag g. tt))
      (λ f. pick_both Ok (eq_z (edge_key C c) ends.pair.l) _ _
      (λ g. link_both Ok (edge_link C c) _ _ tt
      (λ next tag a. pick_both Ok (eqb tag 3) _ _
      (λ b. target_both Ok (edge_target C c) _ _ tt
      (λ y d. pick_both Ok (eqb y ends.v) _ _ (λ x. both_both Ok (see_both C ends.u ends.v) _ _ _ tt tt (λ s. tt)) (λ x. tt)))
      (λ b. tt)))
      (λ g. tt)))
      (λ e. tt)

  new_edge_ok : (ends : Ends) (p : Prev) (c kept : ℕ) (r : Room) → Behind p → Handed 2047 1 r → Ok (new_edge r ends p c kept)
  new_edge_ok ends First c kept (room.Next n) b h = h.1
  new_edge_ok ends (Edge p) c kept (room.Next n) b h = (h.1, b)
  new_edge_ok ends p c kept room.Full b h = tt
  new_edge_ok ends p c kept room.Torn b h = tt

  settle_edge_ok : (code : ℕ) (ends : Ends) (p : Prev) (c : ℕ) (at : Landed) → Behind p → c < edge_pool → Ok (settle_edge C code ends p c at)
  unfolding settle_edge settle_add_edge settle_remove_edge
  settle_edge_ok code ends p c at b h =
      pick_both Ok (eqb code 4) _ _
      (λ e. pick_both Ok at.equal _ _ (λ f. pick_both Ok (eqb at.tag 2) _ _ (λ g. tt) (λ g. tt))
      (λ f. new_edge_ok ends p c at.kept (room 2047 1 C.counts.edges) b (handed 2047 1 C.counts.edges)))
      (λ e. pick_both Ok (eqb code 5) _ _
      (λ f. pick_both Ok at.equal _ _ (λ g. pick_both Ok (eqb at.tag 3) _ _ (λ a. h) (λ a. tt)) (λ g. tt))
      (λ f. tt))

  decide_edge_ok : (code : ℕ) (ends : Ends) (p : Prev) (c : ℕ) (s : EdgeSeen) → Sees p c s → Ok (decide_edge C code ends p c s)
  unfolding restart
  decide_edge_ok code ends p c sees.Torn h = tt
  decide_edge_ok code ends p c sees.Dead h = tt
  decide_edge_ok code ends p c sees.Again h = link_both Ok (first_link C ends.u) _ _ tt (λ first tag e. tt)
  decide_edge_ok code ends First c (sees.Unlinks kept next) h = tt
  decide_edge_ok code ends (Edge p) c (sees.Unlinks kept next) h = h
  decide_edge_ok code ends p c (sees.Marks next) h = h
  decide_edge_ok code ends p c (sees.Onward next) h = tt
  decide_edge_ok code ends p c (sees.Settles at) h = settle_edge_ok code ends p c at h.0 h.1

  end_trial_ok : (e tag reply : ℕ) → Ok (end_trial C e tag reply)
  unfolding end_trial
  end_trial_ok e tag reply = link_both Ok (edge_link C e) _ _ tt (λ next old f. edge_in_pool C.edges.link e _ (edge_link C e) refl f)

  trial_open_ok : (ends : Ends) (e x c : ℕ) → Ok (trial_open C a ends e x c)
  unfolding trial_open step_open pass_edge cross
  trial_open_ok ends e x c =
      both_both Ok (see_trial C a ends) _ _ _ tt (end_trial_ok e 1 3)
      (λ s. mark_both Ok (vertex_link C x) _ _ _ tt tt
      (pick_both Ok (eqb c 0) _ _ (λ f. tt)
      (λ f. link_both Ok (edge_link C c) _ _ tt
      (λ next tag g. pick_both Ok (eqb tag 1) _ _ (λ i. tt)
      (λ i. target_both Ok (edge_target C c) _ _ tt
      (λ y b. mark_both Ok (vertex_link C y) _ _ _ tt tt
      (pick_both Ok (has a.met y) _ _ (λ d. tt)
      (λ d. pick_both Ok (leb 256 a.back) _ _ (λ h. tt) (λ h. (leb-false 256 a.back h, d))))))))))

  trial_shut_ok : (ends : Ends) (e : ℕ) → Ok (trial_shut C a ends e)
  unfolding trial_shut step_shut take_front
  trial_shut_ok ends e =
      both_both Ok (see_trial C a ends) _ _ _ tt (end_trial_ok e 1 3)
      (λ s. pick_both Ok (eqb a.front a.back) _ _ (λ f. end_trial_ok e 3 1)
      (λ f. let below : a.front < 256 = omega (arith, ends_in_order C a ends s, eqb-false a.front a.back f) in
      pick_both Ok (eqb a.x ends.u) _ _ (λ g. end_trial_ok e 1 6)
      (λ g. mark_both Ok (vertex_link C a.x) _ _ _ tt below (link_both Ok (first_link C a.x) _ _ tt (λ c tag h. below)))))

  step_at_ok : (place : Place) → Ok (step_at C place a)
  unfolding step_vertex step_contains step_find_u step_find_v step_edge
  step_at_ok Idle = tt
  step_at_ok (AddV k p c) = decide_vertex_ok 1 k p c (look_at_vertex C k p c)
  step_at_ok (RemV k p c) = decide_vertex_ok 2 k p c (look_at_vertex C k p c)
  step_at_ok (ConV k c) = decide_contains_ok k (look_for C k c)
  step_at_ok (AddEFindU pair c) = decide_find_u_ok 4 pair c (look_for C pair.k c)
  step_at_ok (RemEFindU pair c) = decide_find_u_ok 5 pair c (look_for C pair.k c)
  step_at_ok (ConEFindU pair c) = decide_find_u_ok 6 pair c (look_for C pair.k c)
  step_at_ok (AddEFindV pair u c) = decide_find_v_ok 4 pair u c (look_for C pair.l c)
  step_at_ok (RemEFindV pair u c) = decide_find_v_ok 5 pair u c (look_for C pair.l c)
  step_at_ok (ConEFindV pair u c) = decide_find_v_ok 6 pair u c (look_for C pair.l c)
  step_at_ok (AddE ends p c) = decide_edge_ok 4 ends p c (look_at_edge C ends p c) (look_sees C ends p c)
  step_at_ok (RemE ends p c) = decide_edge_ok 5 ends p c (look_at_edge C ends p c) (look_sees C ends p c)
  step_at_ok (ConE ends c) = step_contains_edge_ok ends c
  step_at_ok (Trial ends e) = trial_shut_ok ends e
  step_at_ok (TrialOpen ends e x c) = trial_open_ok ends e x c

  pub decide_follows : Follows w (decide C w)
  unfolding decide_at
  decide_follows = pick_both Ok (key_refused (request_of w.place)) _ _ (λ e. tt) (λ e. step_at_ok w.place)
