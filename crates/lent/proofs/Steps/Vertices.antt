-- AddV and RemV decide the same in catalogues that agree, since they look at vertices of the pool.
use Prim.Native.Nat.{ℕ}
use mathlib.Core.Bool.{Bool}
use native.Mathlib.Omega.{arith}
use lib.IntN.{ℤ}
use lib.Signed.{lt_z}
use lib.Dec.{eqb}
use Rattle.catalogue.specs.Tests.{eq_z}
use Rattle.catalogue.specs.Numbers.{head, tail, plain, marked, most_vertices, room}
use Rattle.catalogue.specs.Catalogue.{Catalogue, vertex_key}
use Rattle.catalogue.specs.Steps.Vertices.{see_vertex, look_at_vertex, new_vertex, settle_add_vertex, settle_remove_vertex, settle_vertex, start_again, decide_vertex, step_vertex}
use Rattle.catalogue.specs.declared.links.Room.{Room}
use Rattle.catalogue.specs.declared.links.Room.TheVariants as room
use Rattle.catalogue.specs.declared.steps.VertexSeen.{VertexSeen}
use Rattle.catalogue.specs.declared.steps.VertexSeen.TheVariants as seen
use Rattle.lent.proofs.Twins.{Twin, twin, through, pick_twin}
use Rattle.memory.proofs.Agrees.{Agree}
use Rattle.lent.proofs.Agrees.{vertex_key_same}
use Rattle.lent.proofs.Reading.{vertex_read}
use Rattle.lent.proofs.Ranges.{Near, LeadsNear, vertex_place_near}

-- the next vertex that a look may go on to
abbrev SeesNear : VertexSeen → Type 0
SeesNear seen.Torn = Unit {0}
SeesNear seen.Again = Unit {0}
SeesNear (seen.Unlinks next) = Near next
SeesNear (seen.Onward next) = Near next
SeesNear (seen.Settles next equal) = Unit {0}

new_vertex_near : (k : ℤ) (p c : ℕ) (r : Room) → LeadsNear (new_vertex r k p c)
new_vertex_near k p c (room.Next n) = tt
new_vertex_near k p c room.Full = tt
new_vertex_near k p c room.Torn = tt

module _ {C D : Catalogue} (a : Agree C D) where
  look_twin : (k : ℤ) (p c : ℕ) → Near p → Near c → Twin SeesNear (look_at_vertex C k p c) (look_at_vertex D k p c)
  unfolding look_at_vertex see_vertex
  look_twin k p c h g =
      rw (vertex_key_same a c g)
      (pick_twin (eqb p tail) (λ e. twin _ tt)
      (λ e. vertex_read a p h (twin _ tt)
      (λ to tag b. pick_twin (eqb to c)
      (λ e. pick_twin (eqb tag plain)
      (λ e. vertex_read a c g (twin _ tt)
      (λ next tag b. pick_twin (eqb tag marked) (λ e. twin _ b)
      (λ e. pick_twin (lt_z (vertex_key D c) k) (λ e. twin _ b)
      (λ e. pick_twin (eq_z (vertex_key D c) k) (λ e. twin _ tt) (λ e. twin _ tt)))))
      (λ e. twin _ tt))
      (λ e. twin _ tt))))

  module _ (code : ℕ) (k : ℤ) (p c : ℕ) where
    settle_twin : (next : ℕ) (equal : Bool) → Twin LeadsNear (settle_vertex C code k p c next equal) (settle_vertex D code k p c next equal)
    unfolding settle_vertex settle_add_vertex settle_remove_vertex
    settle_twin next equal =
        rw a.vertices
        (pick_twin (eqb code 1)
        (λ e. pick_twin equal (λ e. twin _ tt) (λ e. twin _ (new_vertex_near k p c (room most_vertices 2 D.counts.vertices))))
        (λ e. pick_twin (eqb code 2) (λ e. pick_twin equal (λ e. twin _ tt) (λ e. twin _ tt)) (λ e. twin _ tt)))

    again_twin : Twin LeadsNear (start_again C code k) (start_again D code k)
    unfolding start_again
    again_twin = vertex_read a head (omega arith) (twin _ tt) (λ first tag b. twin _ (vertex_place_near code k head first (omega arith) b))

    decide_twin : Near p → Near c → (s : VertexSeen) → SeesNear s → Twin LeadsNear (decide_vertex C code k p c s) (decide_vertex D code k p c s)
    decide_twin h g seen.Torn b = twin _ tt
    decide_twin h g seen.Again b = again_twin
    decide_twin h g (seen.Unlinks next) b = twin _ (vertex_place_near code k p next h b)
    decide_twin h g (seen.Onward next) b = twin _ (vertex_place_near code k c next g b)
    decide_twin h g (seen.Settles next equal) b = settle_twin next equal

    pub step_vertex_twin : Near p → Near c → Twin LeadsNear (step_vertex C code k p c) (step_vertex D code k p c)
    unfolding step_vertex
    step_vertex_twin h g = through (decide_vertex C code k p c) (decide_vertex D code k p c) (decide_twin h g) (look_twin k p c h g)
