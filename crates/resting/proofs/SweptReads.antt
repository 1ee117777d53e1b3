-- What is read in a catalogue that holds keys and edges, at their numbers.
use Prim.Native.Nat.{ℕ, suc, ◌+◌, ◌<◌, ◌≤◌}
use mathlib.Core.List.{List, ◌∷◌}
use mathlib.Core.Path.{◌≡◌, refl}
use native.Mathlib.Omega.{arith}
use lib.IntN.{ℤ, pos}
use lib.ListN.{length, get_or, get_or-map}
use lib.Dec.{ltb}
use borrow.Author.Tests.{ne_eqb, lt-ltb, le-leb, ltb-true}
use Rattle.catalogue.specs.Numbers.{head, tail, vertex_pool, edge_pool, vertex_tag, first_tag, edge_tag, plain, added, least, most_vertices, some_link}
use Rattle.catalogue.specs.Catalogue.{vertex_key, vertex_key_in, vertex_link, vertex_link_in, first_link, first_link_in, edge_key, edge_key_in, edge_link, edge_link_in, edge_target, edge_target_in}
use Rattle.catalogue.specs.Sweep.{SweptEdge, held, first_of, next_swept, next_swept_edge}
use Rattle.std.proofs.Common.{Some}
use Rattle.laws.proofs.Picks.{pick_both}
use Rattle.resting.proofs.Links.{link_apart}
use Rattle.resting.proofs.Blocks.{blank}

-- the keys by number
abbrev pub new_keys : List ℤ → List ℤ
new_keys keys = least ∷ pos 0 ∷ keys

next_low : (n i : ℕ) → n ≤ most_vertices → next_swept n i < vertex_pool
unfolding next_swept
next_low n i h = pick_both (λ k. k < 256) (ltb (suc i) (2 + n)) (suc i) 1 (λ e. omega (arith, ltb-true (suc i) (2 + n) e)) (λ e. omega arith)

module _ (keys : List ℤ) (es : List SweptEdge) where
  abbrev count : ℕ
  count = length keys

  pub handed_out : ((held keys es).counts.vertices ≡ count) × ((held keys es).counts.edges ≡ length es)
  unfolding held
  handed_out = (refl, refl)

  pub head_key : vertex_key (held keys es) head ≡ least
  unfolding held vertex_key_in
  head_key = refl

  pub vertex_key_at : (i : ℕ) → 2 ≤ i → vertex_key (held keys es) i ≡ get_or (new_keys keys) i (pos 0)
  unfolding held vertex_key_in
  vertex_key_at i h = rw (ne_eqb i 1 (omega arith)) refl

  pub edge_key_at : (j : ℕ) → edge_key (held keys es) (suc j) ≡ (get_or es j blank).key
  unfolding held edge_key_in
  edge_key_at j = rw (ne_eqb (suc j) 0 (omega arith)) (get_or-map (λ d. d.key) es j blank)

  pub target_at : (j : ℕ) → (get_or es j blank).target < vertex_pool → edge_target (held keys es) (suc j) ≡ Some (get_or es j blank).target
  unfolding held edge_target_in
  target_at j b = rw (get_or-map (λ d. d.target) es j blank, lt-ltb (get_or es j blank).target 256 b) refl

  pub first_at : (i : ℕ) → first_of i es 1 < edge_pool → first_link (held keys es) i ≡ some_link (first_of i es 1) plain
  unfolding held first_link_in
  first_at i b = link_apart edge_pool first_tag (first_of i es 1) plain b (omega arith) refl

  pub edge_at : (e : ℕ) → 1 ≤ e → e ≤ length es → e < edge_pool → next_swept_edge es e < edge_pool
      → edge_link (held keys es) e ≡ some_link (next_swept_edge es e) added
  unfolding held edge_link_in
  edge_at e a b c h =
      rw (ne_eqb e 0 (omega arith), lt-ltb e 2048 c, le-leb 1 e a, le-leb e (length es) b)
      (link_apart edge_pool edge_tag (next_swept_edge es e) added h (omega arith) refl)

  module _ (few : count ≤ most_vertices) where
    pub head_at : vertex_link (held keys es) head ≡ some_link (next_swept count tail) plain
    unfolding held vertex_link_in
    head_at = link_apart vertex_pool vertex_tag (next_swept count tail) plain (next_low count tail few) (omega arith) refl

    pub vertex_at : (i : ℕ) → 2 ≤ i → i < 2 + count → vertex_link (held keys es) i ≡ some_link (next_swept count i) plain
    unfolding held vertex_link_in
    vertex_at i a b =
        rw (ne_eqb i 1 (omega arith), ne_eqb i 0 (omega arith), le-leb 2 i a, lt-ltb i (2 + count) b)
        (link_apart vertex_pool vertex_tag (next_swept count i) plain (next_low count i few) (omega arith) refl)
