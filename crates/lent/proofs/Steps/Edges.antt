-- AddE, RemE and ConE decide the same in catalogues that agree: an edge is looked at only in its pool.
use Prim.Native.Nat.{ℕ, ◌<◌}
use mathlib.Core.Path.{◌≡◌}
use borrow.Author.Tests.{ltb-true}
use lib.IntN.{ℤ}
use lib.Signed.{lt_z}
use lib.Dec.{eqb, ltb}
use Rattle.catalogue.specs.Tests.{eq_z}
use Rattle.catalogue.specs.Numbers.{edge_pool, edge_tail, most_edges, plain, marked, transit, added, room}
use Rattle.catalogue.specs.Catalogue.{Catalogue, edge_key}
use Rattle.catalogue.specs.Steps.Both.{see_both, at_both}
use Rattle.catalogue.specs.Steps.Contains.{settle_contains_edge, step_contains_edge}
use Rattle.catalogue.specs.Steps.Edges.{link_behind, see_key, see_edge, see_behind, look_at_edge, new_edge, settle_add_edge, settle_remove_edge, settle_edge, restart, decide_edge, step_edge}
use Rattle.catalogue.specs.declared.links.Room.{Room}
use Rattle.catalogue.specs.declared.links.Room.TheVariants as room
use Rattle.catalogue.specs.declared.workers.Ends.{Ends}
use Rattle.catalogue.specs.declared.workers.Prev.{Prev}
use Rattle.catalogue.specs.declared.workers.Prev.TheVariants.{First, Edge}
use Rattle.catalogue.specs.declared.steps.Landed.{Landed}
use Rattle.catalogue.specs.declared.steps.EdgeSeen.{EdgeSeen}
use Rattle.catalogue.specs.declared.steps.EdgeSeen.TheVariants as seen
use Rattle.lent.proofs.Twins.{Twin, twin, Same, through, pick_twin, link_twin, both_twin}
use Rattle.memory.proofs.Agrees.{Agree}
use Rattle.lent.proofs.Agrees.{first_link_same, edge_key_same, edge_link_same}
use Rattle.lent.proofs.Reading.{mark_read, first_read, edge_read, target_read}
use Rattle.lent.proofs.Ranges.{Near, EndsNear, LeadsNear, edge_place_near}

module _ {C D : Catalogue} (a : Agree C D) where
  -- the marks of u and v
  pub see_both_twin : (ends : Ends) → EndsNear ends → Same (see_both C ends.u ends.v) (see_both D ends.u ends.v)
  unfolding see_both
  see_both_twin ends h =
      mark_read a ends.u h.0 (twin _ tt) (twin _ tt) (mark_read a ends.v h.1 (twin _ tt) (twin _ tt) (twin _ tt))

  behind_same : (u : ℕ) → Near u → (p : Prev) → link_behind C u p ≡ link_behind D u p
  behind_same u h First = first_link_same a u h
  behind_same u h (Edge p) = edge_link_same a p

  module _ (l : ℤ) (c : ℕ) (b : c < edge_pool) where
    see_key_twin : (kept next tag : ℕ) → Same (see_key C l c kept next tag) (see_key D l c kept next tag)
    unfolding see_key
    see_key_twin kept next tag = rw (edge_key_same a c b) (twin _ tt)

    see_edge_twin : (kept : ℕ) → Same (see_edge C l c kept) (see_edge D l c kept)
    unfolding see_edge
    see_edge_twin kept =
        pick_twin (eqb c edge_tail) (λ e. see_key_twin kept edge_tail plain)
        (λ e. edge_read a c (twin _ tt)
        (λ next tag h n. pick_twin (eqb tag marked) (λ e. twin _ tt)
        (λ e. pick_twin (eqb tag added)
        (λ e. target_read a c h (twin _ tt) (λ y g. mark_read a y g (twin _ tt) (twin _ tt) (see_key_twin kept next tag)))
        (λ e. see_key_twin kept next tag))))

  module _ (ends : Ends) (h : EndsNear ends) where
    -- what follows from the marks of u and v
    pub both_seen : {A : Type 0} {P : A → Type 0} {torn dead live torn' dead' live' : A} → Twin P torn torn' → Twin P dead dead' → Twin P live live'
        → Twin P (at_both (see_both C ends.u ends.v) torn dead live) (at_both (see_both D ends.u ends.v) torn' dead' live')
    both_seen = both_twin (see_both C ends.u ends.v) (see_both D ends.u ends.v) (see_both_twin ends h).same

    look_twin : (p : Prev) (c : ℕ) → Same (look_at_edge C ends p c) (look_at_edge D ends p c)
    unfolding look_at_edge see_behind
    look_twin p c =
        both_seen (twin _ tt) (twin _ tt)
        (link_twin (link_behind C ends.u p) (link_behind D ends.u p) (behind_same ends.u h.0 p) (twin _ tt)
        (λ to tag e. pick_twin (eqb tag marked) (λ e. twin _ tt)
        (λ e. pick_twin (ltb c edge_pool)
        (λ b. pick_twin (eqb to c) (λ e. see_edge_twin ends.pair.l c (ltb-true c edge_pool b) tag) (λ e. twin _ tt))
        (λ b. twin _ tt))))

    module _ (code : ℕ) (p : Prev) (c : ℕ) where
      new_edge_near : (kept : ℕ) (r : Room) → LeadsNear (new_edge r ends p c kept)
      new_edge_near kept (room.Next n) = (h, h.1)
      new_edge_near kept room.Full = tt
      new_edge_near kept room.Torn = tt

      settle_twin : (at : Landed) → Twin LeadsNear (settle_edge C code ends p c at) (settle_edge D code ends p c at)
      unfolding settle_edge settle_add_edge settle_remove_edge
      settle_twin at =
          rw a.edges
          (pick_twin (eqb code 4)
          (λ e. pick_twin at.equal (λ e. pick_twin (eqb at.tag transit) (λ e. twin _ tt) (λ e. twin _ tt))
          (λ e. twin _ (new_edge_near at.kept (room most_edges 1 D.counts.edges))))
          (λ e. pick_twin (eqb code 5)
          (λ e. pick_twin at.equal (λ e. pick_twin (eqb at.tag added) (λ e. twin _ tt) (λ e. twin _ tt)) (λ e. twin _ tt))
          (λ e. twin _ tt)))

      restart_twin : Twin LeadsNear (restart C code ends) (restart D code ends)
      unfolding restart
      restart_twin = first_read a ends.u h.0 (twin _ tt) (λ first tag b. twin _ (edge_place_near code ends h First first))

      decide_twin : (s : EdgeSeen) → Twin LeadsNear (decide_edge C code ends p c s) (decide_edge D code ends p c s)
      decide_twin seen.Torn = twin _ tt
      decide_twin seen.Dead = twin _ tt
      decide_twin seen.Again = restart_twin
      decide_twin (seen.Unlinks kept next) = twin _ (edge_place_near code ends h p next)
      decide_twin (seen.Marks next) = twin _ (edge_place_near code ends h p c)
      decide_twin (seen.Onward next) = twin _ (edge_place_near code ends h (Edge c) next)
      decide_twin (seen.Settles at) = settle_twin at

      pub step_edge_twin : Twin LeadsNear (step_edge C code ends p c) (step_edge D code ends p c)
      unfolding step_edge
      step_edge_twin = through (decide_edge C code ends p c) (decide_edge D code ends p c) (λ s b. decide_twin s) (look_twin p c)

    module _ (c : ℕ) where
      settle_contains_twin : Twin LeadsNear (settle_contains_edge C ends c) (settle_contains_edge D ends c)
      unfolding settle_contains_edge
      settle_contains_twin =
          edge_read a c (twin _ tt)
          (λ next tag b n. pick_twin (eqb tag added)
          (λ e. target_read a c b (twin _ tt)
          (λ y f. pick_twin (eqb y ends.v) (λ e. both_seen (twin _ tt) (twin _ tt) (twin _ tt)) (λ e. twin _ tt)))
          (λ e. twin _ tt))

      pub step_contains_edge_twin : Twin LeadsNear (step_contains_edge C ends c) (step_contains_edge D ends c)
      unfolding step_contains_edge
      step_contains_edge_twin =
          pick_twin (ltb c edge_pool)
          (λ b. rw (edge_key_same a c (ltb-true c edge_pool b))
          (pick_twin (lt_z (edge_key D c) ends.pair.l) (λ e. edge_read a c (twin _ tt) (λ next tag b n. twin _ h))
          (λ e. pick_twin (eq_z (edge_key D c) ends.pair.l) (λ e. settle_contains_twin) (λ e. twin _ tt))))
          (λ b. twin _ tt)
