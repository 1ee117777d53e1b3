-- ConV, and finding u and v, decide the same in catalogues that agree.
use Prim.Native.Nat.{ℕ}
use native.Mathlib.Omega.{arith}
use lib.IntN.{ℤ}
use lib.Signed.{lt_z}
use Rattle.catalogue.specs.Tests.{eq_z}
use Rattle.catalogue.specs.Numbers.{head}
use Rattle.catalogue.specs.Catalogue.{Catalogue, vertex_key}
use Rattle.catalogue.specs.Steps.Finding.{look_for, decide_contains, step_contains, found_u, decide_find_u, step_find_u, found_v, ends_of, decide_find_v, step_find_v}
use Rattle.catalogue.specs.declared.workers.Pair.{Pair}
use Rattle.catalogue.specs.declared.steps.VertexFound.{VertexFound}
use Rattle.catalogue.specs.declared.steps.VertexFound.TheVariants as found
use Rattle.lent.proofs.Twins.{Twin, twin, through, pick_twin}
use Rattle.memory.proofs.Agrees.{Agree}
use Rattle.lent.proofs.Agrees.{vertex_key_same}
use Rattle.lent.proofs.Reading.{vertex_read, mark_read, first_read}
use Rattle.lent.proofs.Ranges.{Near, LeadsNear, find_u_near, find_v_near, edges_place_near}

abbrev FindsNear : VertexFound → Type 0
FindsNear found.Torn = Unit {0}
FindsNear (found.Onward next) = Near next
FindsNear found.Found = Unit {0}
FindsNear found.Missing = Unit {0}

contains_twin : (k : ℤ) (s : VertexFound) → FindsNear s → Twin LeadsNear (decide_contains k s) (decide_contains k s)
contains_twin k found.Torn b = twin _ tt
contains_twin k (found.Onward next) b = twin _ b
contains_twin k found.Found b = twin _ tt
contains_twin k found.Missing b = twin _ tt

module _ {C D : Catalogue} (a : Agree C D) where
  look_twin : (k : ℤ) (c : ℕ) → Near c → Twin FindsNear (look_for C k c) (look_for D k c)
  unfolding look_for
  look_twin k c h =
      rw (vertex_key_same a c h)
      (pick_twin (lt_z (vertex_key D c) k) (λ e. vertex_read a c h (twin _ tt) (λ next tag b. twin _ b))
      (λ e. pick_twin (eq_z (vertex_key D c) k) (λ e. mark_read a c h (twin _ tt) (twin _ tt) (twin _ tt)) (λ e. twin _ tt)))

  pub step_contains_twin : (k : ℤ) (c : ℕ) → Near c → Twin LeadsNear (step_contains C k c) (step_contains D k c)
  unfolding step_contains
  step_contains_twin k c h = through (decide_contains k) (decide_contains k) (contains_twin k) (look_twin k c h)

  module _ (code : ℕ) (pair : Pair) where
    find_u_twin : (c : ℕ) → Near c → (s : VertexFound) → FindsNear s → Twin LeadsNear (decide_find_u C code pair c s) (decide_find_u D code pair c s)
    unfolding found_u
    find_u_twin c h found.Torn b = twin _ tt
    find_u_twin c h (found.Onward next) b = twin _ (find_u_near code pair next b)
    find_u_twin c h found.Found b = vertex_read a head (omega arith) (twin _ tt) (λ first tag b. twin _ (find_v_near code pair c first h b))
    find_u_twin c h found.Missing b = twin _ tt

    pub step_find_u_twin : (c : ℕ) → Near c → Twin LeadsNear (step_find_u C code pair c) (step_find_u D code pair c)
    unfolding step_find_u
    step_find_u_twin c h = through (decide_find_u C code pair c) (decide_find_u D code pair c) (find_u_twin c h) (look_twin pair.k c h)

    module _ (u : ℕ) (g : Near u) where
      find_v_twin : (c : ℕ) → Near c → (s : VertexFound) → FindsNear s → Twin LeadsNear (decide_find_v C code pair u c s) (decide_find_v D code pair u c s)
      unfolding found_v
      find_v_twin c h found.Torn b = twin _ tt
      find_v_twin c h (found.Onward next) b = twin _ (find_v_near code pair u next g b)
      find_v_twin c h found.Found b = first_read a u g (twin _ tt) (λ first tag b. twin _ (edges_place_near code (ends_of pair u c) (g, h) first))
      find_v_twin c h found.Missing b = twin _ tt

      pub step_find_v_twin : (c : ℕ) → Near c → Twin LeadsNear (step_find_v C code pair u c) (step_find_v D code pair u c)
      unfolding step_find_v
      step_find_v_twin c h = through (decide_find_v C code pair u c) (decide_find_v D code pair u c) (find_v_twin c h) (look_twin pair.l c h)
