-- What is read of two catalogues that agree inside the pools is the same.
use Prim.Native.Nat.{ℕ, ◌<◌}
use mathlib.Core.Bool.{Bool, true, false}
use mathlib.Core.Path.{◌≡◌, refl}
use lib.Dec.{ltb}
use borrow.Author.Tests.{ltb-true}
use Rattle.catalogue.specs.Numbers.{vertex_pool, edge_pool}
use Rattle.catalogue.specs.Catalogue.{Catalogue, vertex_key, vertex_key_in, vertex_link, vertex_link_in, first_link, first_link_in, edge_key, edge_key_in, edge_link, edge_link_in, edge_target, edge_target_in}
use Rattle.memory.proofs.Agrees.{Agree}

module _ {C D : Catalogue} (a : Agree C D) (n : ℕ) where
  pub vertex_key_same : n < vertex_pool → vertex_key C n ≡ vertex_key D n
  unfolding vertex_key_in
  vertex_key_same h = rw (a.vkeys n h) refl

  pub vertex_link_same : n < vertex_pool → vertex_link C n ≡ vertex_link D n
  unfolding vertex_link_in
  vertex_link_same h = rw (a.vlinks n h) refl

  pub first_link_same : n < vertex_pool → first_link C n ≡ first_link D n
  unfolding first_link_in
  first_link_same h = rw (a.firsts n h) refl

  pub edge_key_same : n < edge_pool → edge_key C n ≡ edge_key D n
  unfolding edge_key_in
  edge_key_same h = rw (a.ekeys n h) refl

  pub edge_target_same : n < edge_pool → edge_target C n ≡ edge_target D n
  unfolding edge_target_in
  edge_target_same h = rw (a.targets n h) refl

  -- a link of an edge is read in its pool only
  pub edge_link_same : edge_link C n ≡ edge_link D n
  unfolding edge_link_in
  edge_link_same = by (ltb n edge_pool) refl
    where
      by : (t : Bool) → ltb n edge_pool ≡ t → edge_link C n ≡ edge_link D n
      by true e = rw (a.elinks n (ltb-true n edge_pool e)) refl
      by false e = rw e refl
