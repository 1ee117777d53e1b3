-- What AddV and RemV decide: a reply in the row, or 9 where a vertex is needed and none is left.
use Prim.Native.Nat.{ℕ}
use mathlib.Core.Bool.{true, false}
use mathlib.Core.Path.{◌≡◌, refl}
use lib.IntN.{ℤ}
use Rattle.catalogue.specs.Numbers.{head, most_vertices, room}
use Rattle.catalogue.specs.Catalogue.{Catalogue, vertex_link}
use Rattle.catalogue.specs.Steps.Places.{vertex_place}
use Rattle.catalogue.specs.Steps.Vertices.{look_at_vertex, new_vertex, settle_add_vertex, settle_remove_vertex, settle_vertex, start_again, decide_vertex, step_vertex}
use Rattle.catalogue.specs.declared.steps.Decision.{Decision}
use Rattle.catalogue.specs.declared.steps.VertexSeen.{VertexSeen}
use Rattle.catalogue.specs.declared.steps.VertexSeen.TheVariants as vertex_seen
use Rattle.catalogue.specs.declared.workers.Ahead.{Ahead}
use Rattle.catalogue.specs.declared.workers.Place.{Place}
use Rattle.catalogue.specs.declared.workers.Place.TheVariants.{AddV, RemV}
use Rattle.laws.proofs.Picks.{link_both}
use Rattle.promises.specs.Outside.{a_vertex}
use Rattle.promises.proofs.Showing.Pools.{room_both}
use Rattle.promises.proofs.Fates.Told.{Fate, in_row, lacks}
use Rattle.promises.proofs.Fates.Places.{to_vertex}

module _ (C : Catalogue) (a : Ahead) where
  abbrev F : Place → Decision → Type 0
  F pl = Fate C a pl

  restarts : (pl : Place) (code : ℕ) (k : ℤ) → F pl (start_again C code k)
  unfolding start_again
  restarts pl code k =
      link_both (F pl) (vertex_link C head) _ _ tt (λ first tag e. to_vertex code k head first)

  full_vertex : (k : ℤ) (p c next : ℕ) → look_at_vertex C k p c ≡ vertex_seen.Settles next false
      → F (AddV k p c) (new_vertex (room most_vertices 2 C.counts.vertices) k p c)
  full_vertex k p c next q =
      room_both (λ r. F (AddV k p c) (new_vertex r k p c)) most_vertices 2 C.counts.vertices
      (λ n. in_row refl tt) (λ e. lacks refl refl (a_vertex next q e)) tt

  pub adds_vertex : (k : ℤ) (p c : ℕ) → F (AddV k p c) (step_vertex C 1 k p c)
  unfolding step_vertex settle_vertex settle_add_vertex vertex_place
  adds_vertex k p c = by (look_at_vertex C k p c) refl
    where
      by : (z : VertexSeen) → look_at_vertex C k p c ≡ z → F (AddV k p c) (decide_vertex C 1 k p c z)
      by vertex_seen.Torn q = tt
      by vertex_seen.Again q = restarts (AddV k p c) 1 k
      by (vertex_seen.Unlinks next) q = refl
      by (vertex_seen.Onward next) q = refl
      by (vertex_seen.Settles next true) q = in_row refl tt
      by (vertex_seen.Settles next false) q = full_vertex k p c next q

  pub removes_vertex : (k : ℤ) (p c : ℕ) → F (RemV k p c) (step_vertex C 2 k p c)
  unfolding step_vertex settle_vertex settle_remove_vertex vertex_place
  removes_vertex k p c = by (look_at_vertex C k p c)
    where
      by : (z : VertexSeen) → F (RemV k p c) (decide_vertex C 2 k p c z)
      by vertex_seen.Torn = tt
      by vertex_seen.Again = restarts (RemV k p c) 2 k
      by (vertex_seen.Unlinks next) = refl
      by (vertex_seen.Onward next) = refl
      by (vertex_seen.Settles next true) = in_row refl tt
      by (vertex_seen.Settles next false) = in_row refl tt
