-- One law for each read: in catalogues that agree it chooses the same case, and what it leads to lies in its pool.
use Prim.Native.Nat.{ℕ, ◌<◌}
use mathlib.Core.Path.{◌≡◌, refl, subst}
use lib.Dec.{eqb, ltb}
use borrow.Author.Tests.{ltb-true}
use Rattle.catalogue.specs.Numbers.{vertex_pool, edge_pool, marked}
use Rattle.catalogue.specs.Catalogue.{Catalogue, vertex_link, first_link, edge_link, edge_target, edge_target_in, at_link, at_target, at_mark}
use Rattle.std.proofs.Common.{Option, Some, None}
use Rattle.laws.proofs.Picks.{pick_both}
use Rattle.laws.proofs.Leads.{vertex_next_in, edge_next_in, first_next_in}
use Rattle.laws.proofs.Pools.{edge_in_pool}
use Rattle.lent.proofs.Twins.{Twin, pick_twin, link_twin, target_twin}
use Rattle.memory.proofs.Agrees.{Agree}
use Rattle.lent.proofs.Agrees.{vertex_link_same, first_link_same, edge_link_same, edge_target_same}

-- the target of an edge is a vertex
abbrev ToVertex : Option ℕ → Type 0
ToVertex (Some n) = n < vertex_pool
ToVertex None = Unit {0}

target_in : (words : ℕ → ℕ) (e n : ℕ) → edge_target_in words e ≡ Some n → n < vertex_pool
unfolding edge_target_in
target_in words e n q = subst ToVertex q (pick_both ToVertex (ltb (words e) vertex_pool) _ _ (ltb-true (words e) vertex_pool) (λ f. tt))

module _ {C D : Catalogue} (a : Agree C D) {A : Type 0} {P : A → Type 0} (n : ℕ) where
  pub vertex_read : {torn torn' : A} {f f' : ℕ → ℕ → A} → n < vertex_pool → Twin P torn torn'
      → ((next tag : ℕ) → next < vertex_pool → Twin P (f next tag) (f' next tag))
      → Twin P (at_link (vertex_link C n) torn f) (at_link (vertex_link D n) torn' f')
  vertex_read h t g = link_twin (vertex_link C n) (vertex_link D n) (vertex_link_same a n h) t (λ next tag e. g next tag (vertex_next_in C.vertices.link n next tag e))

  pub mark_read : {torn dead live torn' dead' live' : A} → n < vertex_pool → Twin P torn torn' → Twin P dead dead' → Twin P live live'
      → Twin P (at_mark (vertex_link C n) torn dead live) (at_mark (vertex_link D n) torn' dead' live')
  mark_read h t d l = vertex_read h t (λ next tag b. pick_twin (eqb tag marked) (λ e. d) (λ e. l))

  pub first_read : {torn torn' : A} {f f' : ℕ → ℕ → A} → n < vertex_pool → Twin P torn torn'
      → ((next tag : ℕ) → next < edge_pool → Twin P (f next tag) (f' next tag))
      → Twin P (at_link (first_link C n) torn f) (at_link (first_link D n) torn' f')
  first_read h t g = link_twin (first_link C n) (first_link D n) (first_link_same a n h) t (λ next tag e. g next tag (first_next_in C.vertices.first n next tag e))

  -- a link that was read whole is that of an edge in its pool
  pub edge_read : {torn torn' : A} {f f' : ℕ → ℕ → A} → Twin P torn torn'
      → ((next tag : ℕ) → n < edge_pool → next < edge_pool → Twin P (f next tag) (f' next tag))
      → Twin P (at_link (edge_link C n) torn f) (at_link (edge_link D n) torn' f')
  edge_read t g =
      link_twin (edge_link C n) (edge_link D n) (edge_link_same a n) t
      (λ next tag e. g next tag (edge_in_pool C.edges.link n _ (edge_link C n) refl e) (edge_next_in C.edges.link n next tag e))

  pub target_read : {torn torn' : A} {f f' : ℕ → A} → n < edge_pool → Twin P torn torn' → ((y : ℕ) → y < vertex_pool → Twin P (f y) (f' y))
      → Twin P (at_target (edge_target C n) torn f) (at_target (edge_target D n) torn' f')
  target_read h t g = target_twin (edge_target C n) (edge_target D n) (edge_target_same a n h) t (λ y e. g y (target_in C.edges.target n y e))
