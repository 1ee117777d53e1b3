-- What a whole link leads to lies in its pool.
use Prim.Native.Nat.{ℕ, ◌<◌, ◌/◌, ◌%◌}
use mathlib.Core.Bool.{Bool}
use mathlib.Core.Path.{◌≡◌, subst}
use borrow.Author.Tests.{ltb-true}
use native.Mathlib.Omega.{arith}
use lib.Dec.{ltb, eqb}
use Rattle.std.proofs.Common.{Option, Some, None}
use Rattle.catalogue.specs.Numbers.{tail, edge_tail, vertex_pool, edge_pool, vertex_tag, edge_tag, first_tag, some_link, apart}
use Rattle.catalogue.specs.Catalogue.{vertex_link_in, edge_link_in, first_link_in, at_link}
use Rattle.catalogue.specs.declared.links.Link.{Link}
use Rattle.laws.proofs.Picks.{pick_both, link_both}

abbrev Within : ℕ → Option (Link ℕ) → Type 0
Within pool (Some l) = l.next < pool
Within pool None = Unit {0}

apart_leads : (pool : ℕ) (allowed : ℕ → Bool) (word : ℕ) → Within pool (apart pool allowed word)
apart_leads pool allowed word =
    pick_both (Within pool) (ltb (word / 4) pool) _ _
    (λ e. pick_both (Within pool) (allowed (word % 4)) _ _ (λ g. ltb-true (word / 4) pool e) (λ g. tt))
    (λ e. tt)

edge_leads : (words : ℕ → ℕ) (n : ℕ) → Within edge_pool (edge_link_in words n)
unfolding edge_link_in
edge_leads words n =
    pick_both (Within edge_pool) (eqb n edge_tail) _ _ (λ e. tt)
    (λ e. pick_both (Within edge_pool) (ltb n edge_pool) _ _ (λ e. apart_leads edge_pool edge_tag (words n)) (λ e. tt))

first_leads : (words : ℕ → ℕ) (n : ℕ) → Within edge_pool (first_link_in words n)
unfolding first_link_in
first_leads words n = apart_leads edge_pool first_tag (words n)

vertex_leads : (words : ℕ → ℕ) (n : ℕ) → Within vertex_pool (vertex_link_in words n)
unfolding vertex_link_in
vertex_leads words n =
    pick_both (Within vertex_pool) (eqb n tail) _ _ (λ e. omega arith) (λ e. apart_leads vertex_pool vertex_tag (words n))

-- the same of a link that is known
module _ (words : ℕ → ℕ) (n next tag : ℕ) where
  pub edge_next_in : edge_link_in words n ≡ some_link next tag → next < 2048
  edge_next_in e = subst (Within 2048) e (edge_leads words n)

  pub first_next_in : first_link_in words n ≡ some_link next tag → next < 2048
  first_next_in e = subst (Within 2048) e (first_leads words n)

  pub vertex_next_in : vertex_link_in words n ≡ some_link next tag → next < 256
  vertex_next_in e = subst (Within 256) e (vertex_leads words n)

-- where a walk goes on, which is to the end where the link is torn
module _ (words : ℕ → ℕ) (n : ℕ) where
  pub vertex_goes : at_link (vertex_link_in words n) tail (λ next tag. next) < vertex_pool
  vertex_goes = link_both (λ m. m < 256) (vertex_link_in words n) tail (λ next tag. next) (omega arith) (vertex_next_in words n)

  pub edge_goes : at_link (edge_link_in words n) edge_tail (λ next tag. next) < edge_pool
  edge_goes = link_both (λ m. m < 2048) (edge_link_in words n) edge_tail (λ next tag. next) (omega arith) (edge_next_in words n)

  pub first_goes : at_link (first_link_in words n) edge_tail (λ next tag. next) < edge_pool
  first_goes = link_both (λ m. m < 2048) (first_link_in words n) edge_tail (λ next tag. next) (omega arith) (first_next_in words n)
