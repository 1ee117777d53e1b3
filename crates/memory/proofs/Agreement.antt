-- Two catalogues that agree at every number of their pools, as a catalogue and what its memory holds do.
use Prim.Native.Nat.{ℕ, ◌<◌}
use mathlib.Core.Path.{◌≡◌}
use Rattle.catalogue.specs.Numbers.{vertex_pool, edge_pool}
use Rattle.catalogue.specs.Catalogue.{Catalogue}

-- equal counts, and equal fields at every number of their pools
pub record Agree (C D : Catalogue) : Type 0 where
  pub vertices : C.counts.vertices ≡ D.counts.vertices
  pub edges : C.counts.edges ≡ D.counts.edges
  pub vkeys : (n : ℕ) → n < vertex_pool → C.vertices.key n ≡ D.vertices.key n
  pub vlinks : (n : ℕ) → n < vertex_pool → C.vertices.link n ≡ D.vertices.link n
  pub firsts : (n : ℕ) → n < vertex_pool → C.vertices.first n ≡ D.vertices.first n
  pub ekeys : (n : ℕ) → n < edge_pool → C.edges.key n ≡ D.edges.key n
  pub targets : (n : ℕ) → n < edge_pool → C.edges.target n ≡ D.edges.target n
  pub elinks : (n : ℕ) → n < edge_pool → C.edges.link n ≡ D.edges.link n
