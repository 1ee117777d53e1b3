-- The vertices of a sound catalogue: their keys rise to the greatest, so they differ and fit their pool.
use Prim.Native.Nat.{ℕ, zero, suc, ◌<◌, ◌≤◌}
use mathlib.Core.Bool.{true}
use mathlib.Core.List.{◌∷◌, map}
use mathlib.Core.Path.{◌≡◌, refl}
use native.Mathlib.Omega.{arith}
use lib.ListN.{length}
use lib.Signed.{◌<ℤ◌, <ℤ_irrefl}
use Rattle.catalogue.specs.Numbers.{head, tail, vertex_pool, most_vertices, greatest}
use Rattle.catalogue.specs.Catalogue.{Catalogue, vertex_key, vertex_key_in, vertex_link}
use Rattle.catalogue.specs.Live.{next_vertex, vertices, unmarked, live_vertices}
use Rattle.catalogue.specs.Soundness.{Asks, vertex_sound, sound}
use Rattle.laws.proofs.Leads.{vertex_goes}
use Rattle.laws.proofs.Members.{All, all_each, all_join, kept_all, map_all, keys_kept}
use Rattle.laws.proofs.Keys.{Rising, rising_keep, rising_distinct}
use Rattle.laws.proofs.Distinct.{Distinct, pigeons}
use Rattle.laws.proofs.Walks.{Climbs, walk_above, walk_rising, walk_under, walk_within}
use Rattle.resting.proofs.Sound.{link_rises, vertices_sound}

module _ (asks : Asks) (C : Catalogue) (s : sound asks C ≡ true) where
  climb : Climbs (next_vertex C) tail (vertex_key C) (head ∷ vertices C)
  climb =
      all_each (λ x. vertex_sound C x ≡ true) (λ x. vertex_key C x <ℤ vertex_key C (next_vertex C x)) (λ x e. link_rises (vertex_key C x) (vertex_key C) (vertex_link C x) e)
      (head ∷ vertices C) (vertices_sound asks C s)

  over : All (λ k. vertex_key C head <ℤ k) (map (vertex_key C) (vertices C))
  over = walk_above (next_vertex C) tail (vertex_key C) vertex_pool (next_vertex C head) climb.1 (vertex_key C head) climb.0

  within : All (λ x. (2 ≤ x) × (x < 256)) (vertices C)
  within =
      all_each (λ x. (vertex_key C head <ℤ vertex_key C x) × ((x < 256) × (x ≡ tail → ⊥))) (λ x. (2 ≤ x) × (x < 256)) (λ x h. high x h.0 h.1.0 h.1.1) (vertices C)
      (all_join (λ x. vertex_key C head <ℤ vertex_key C x) (λ x. (x < 256) × (x ≡ tail → ⊥)) (vertices C)
      (map_all (λ k. vertex_key C head <ℤ k) (vertex_key C) (vertices C) over)
      (walk_within (next_vertex C) tail vertex_pool vertex_pool (next_vertex C head) (vertex_goes C.vertices.link) (vertex_goes C.vertices.link head)))
    where
      high : (x : ℕ) → vertex_key C head <ℤ vertex_key C x → x < 256 → (x ≡ tail → ⊥) → (2 ≤ x) × (x < 256)
      high zero k b n = absurd (<ℤ_irrefl {a = vertex_key C head} k)
      high (suc zero) k b n = absurd (n refl)
      high (suc (suc x)) k b n = omega arith

  pub live_over : All (λ k. vertex_key C head <ℤ k) (map (vertex_key C) (live_vertices C))
  live_over = keys_kept (λ k. vertex_key C head <ℤ k) (vertex_key C) (unmarked C) (vertices C) over

  pub live_rising : Rising (map (vertex_key C) (live_vertices C))
  live_rising = rising_keep (vertex_key C) (unmarked C) (vertices C) (walk_rising (next_vertex C) tail (vertex_key C) vertex_pool (next_vertex C head) climb.1)

  pub live_distinct : Distinct (live_vertices C)
  live_distinct = rising_distinct (vertex_key C) (live_vertices C) live_rising

  pub live_within : All (λ x. (2 ≤ x) × (x < 256)) (live_vertices C)
  live_within = kept_all (λ x. (2 ≤ x) × (x < 256)) (unmarked C) (vertices C) within

  pub live_few : length (live_vertices C) ≤ most_vertices
  live_few = pigeons 2 254 (live_vertices C) live_distinct live_within

  pub live_under : All (λ k. k <ℤ greatest) (map (vertex_key C) (live_vertices C))
  unfolding vertex_key_in
  live_under =
      keys_kept (λ k. k <ℤ greatest) (vertex_key C) (unmarked C) (vertices C)
      (walk_under (next_vertex C) tail (vertex_key C) vertex_pool (next_vertex C head) climb.1 2 254 within (omega arith))
