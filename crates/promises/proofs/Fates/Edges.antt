-- What AddE, RemE and ConE decide: a reply in the row; 7 at an edge on trial;
-- 9 where an edge is needed and none is left; or to try one.
use Prim.Native.Nat.{ℕ}
use mathlib.Core.Bool.{false}
use mathlib.Core.Path.{◌≡◌, refl}
use borrow.Author.Tests.{eqb-true}
use lib.Dec.{eqb, ltb}
use lib.Signed.{lt_z}
use Rattle.catalogue.specs.Tests.{eq_z}
use Rattle.catalogue.specs.Numbers.{edge_pool, added, transit, most_edges, room}
use Rattle.catalogue.specs.Catalogue.{Catalogue, first_link, edge_key, edge_link, edge_target}
use Rattle.catalogue.specs.Steps.Both.{see_both, at_both}
use Rattle.catalogue.specs.Steps.Contains.{settle_contains_edge, step_contains_edge}
use Rattle.catalogue.specs.Steps.Edges.{look_at_edge, new_edge, settle_add_edge, settle_remove_edge, settle_edge, restart, decide_edge, step_edge}
use Rattle.catalogue.specs.declared.steps.BothSeen.{BothSeen}
use Rattle.catalogue.specs.declared.steps.BothSeen.TheVariants as both
use Rattle.catalogue.specs.declared.steps.Decision.{Decision}
use Rattle.catalogue.specs.declared.steps.Decision.TheVariants.{Torn, Reply}
use Rattle.catalogue.specs.declared.steps.EdgeSeen.{EdgeSeen}
use Rattle.catalogue.specs.declared.steps.EdgeSeen.TheVariants as edge_seen
use Rattle.catalogue.specs.declared.steps.Landed.{Landed}
use Rattle.catalogue.specs.declared.workers.Ahead.{Ahead}
use Rattle.catalogue.specs.declared.workers.Ends.{Ends}
use Rattle.catalogue.specs.declared.workers.Place.{Place}
use Rattle.catalogue.specs.declared.workers.Place.TheVariants.{AddE, RemE, ConE}
use Rattle.catalogue.specs.declared.workers.Prev.{Prev}
use Rattle.catalogue.specs.declared.writes.Write.TheVariants.{Nothing}
use Rattle.laws.proofs.Picks.{pick_both, link_both, target_both}
use Rattle.promises.specs.Outside.{an_edge}
use Rattle.promises.proofs.Showing.Pools.{room_both}
use Rattle.promises.proofs.Fates.Told.{Fate, in_row, lacks, on_trial}
use Rattle.promises.proofs.Fates.Places.{to_edge}

module _ (C : Catalogue) (a : Ahead) where
  abbrev F : Place → Decision → Type 0
  F pl = Fate C a pl

  pub contains_edge : (ends : Ends) (c : ℕ) → F (ConE ends c) (step_contains_edge C ends c)
  unfolding step_contains_edge settle_contains_edge
  contains_edge ends c =
      pick_both P (ltb c edge_pool) _ _
      (λ e. pick_both P (lt_z (edge_key C c) ends.pair.l) _ _
      (λ e. link_both P (edge_link C c) _ _ tt (λ next tag e. refl))
      (λ e. pick_both P (eq_z (edge_key C c) ends.pair.l) _ _
      (λ e. link_both P (edge_link C c) _ _ tt (λ next tag e.
      pick_both P (eqb tag added) _ _
      (λ e. target_both P (edge_target C c) _ _ tt (λ y e. pick_both P (eqb y ends.v) _ _ (λ e. by (see_both C ends.u ends.v)) (λ e. eight)))
      (λ e. eight)))
      (λ e. eight)))
      (λ e. tt)
    where
      P : Decision → Type 0
      P = F (ConE ends c)

      eight : P (Reply 8 Nothing)
      eight = in_row refl tt

      by : (z : BothSeen) → P (at_both z Torn (Reply 8 Nothing) (Reply 1 Nothing))
      by both.Torn = tt
      by both.Dead = eight
      by both.Standing = in_row refl tt

  restarts_edge : (pl : Place) (code : ℕ) (ends : Ends) → F pl (restart C code ends)
  unfolding restart
  restarts_edge pl code ends = link_both (F pl) (first_link C ends.u) _ _ tt (λ first tag e. to_edge code ends _ first)

  module _ (ends : Ends) (p : Prev) (c : ℕ) where
    full_edge : (at : Landed) → look_at_edge C ends p c ≡ edge_seen.Settles at → at.equal ≡ false
        → F (AddE ends p c) (new_edge (room most_edges 1 C.counts.edges) ends p c at.kept)
    full_edge at q f =
        room_both (λ r. F (AddE ends p c) (new_edge r ends p c at.kept)) most_edges 1 C.counts.edges
        (λ n. record { ends = ends; p = p; c = c; e = n; from = refl; to = refl; goal = refl }) (λ e. lacks refl refl (an_edge at q f e)) tt

    pub adds_edge : F (AddE ends p c) (step_edge C 4 ends p c)
    unfolding step_edge settle_edge settle_add_edge
    adds_edge = by (look_at_edge C ends p c) refl
      where
        by : (z : EdgeSeen) → look_at_edge C ends p c ≡ z → F (AddE ends p c) (decide_edge C 4 ends p c z)
        by edge_seen.Torn q = tt
        by edge_seen.Dead q = in_row refl tt
        by edge_seen.Again q = restarts_edge (AddE ends p c) 4 ends
        by (edge_seen.Unlinks kept next) q = to_edge 4 ends p next
        by (edge_seen.Marks next) q = to_edge 4 ends p c
        by (edge_seen.Onward next) q = to_edge 4 ends _ next
        by (edge_seen.Settles at) q =
            pick_both (F (AddE ends p c)) at.equal _ _
            (λ e. pick_both (F (AddE ends p c)) (eqb at.tag transit) _ _
            (λ f. on_trial refl refl (record { ends = ends; p = p; c = c; at = at; is = refl; seen = q; tag = eqb-true at.tag transit f; equal = e })) (λ f. in_row refl tt))
            (full_edge at q)

    pub removes_edge : F (RemE ends p c) (step_edge C 5 ends p c)
    unfolding step_edge settle_edge settle_remove_edge
    removes_edge = by (look_at_edge C ends p c)
      where
        by : (z : EdgeSeen) → F (RemE ends p c) (decide_edge C 5 ends p c z)
        by edge_seen.Torn = tt
        by edge_seen.Dead = in_row refl tt
        by edge_seen.Again = restarts_edge (RemE ends p c) 5 ends
        by (edge_seen.Unlinks kept next) = to_edge 5 ends p next
        by (edge_seen.Marks next) = to_edge 5 ends p c
        by (edge_seen.Onward next) = to_edge 5 ends _ next
        by (edge_seen.Settles at) =
            pick_both (F (RemE ends p c)) at.equal _ _
            (λ e. pick_both (F (RemE ends p c)) (eqb at.tag added) _ _ (λ f. in_row refl tt) (λ f. in_row refl tt)) (λ e. in_row refl tt)
