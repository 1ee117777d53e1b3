-- The vertices of a catalogue that holds keys are the numbers from 2 on, none of them marked.
use Prim.Native.Nat.{ℕ, suc, ◌+◌, ◌<◌, ◌≤◌}
use mathlib.Core.Bool.{true, false}
use mathlib.Core.List.{List, map}
use mathlib.Core.Path.{◌≡◌, refl, sym, ap, subst, ◌∙◌}
use native.Mathlib.Omega.{arith}
use lib.IntN.{ℤ, pos}
use lib.ListN.{length, get_or}
use Rattle.catalogue.specs.Tests.{keep}
use Rattle.catalogue.specs.Numbers.{head, tail, vertex_pool, most_vertices}
use Rattle.catalogue.specs.Catalogue.{vertex_key, at_link, at_mark}
use Rattle.catalogue.specs.Live.{next_vertex, vertices, unmarked, live_vertices, live_keys}
use Rattle.catalogue.specs.Sweep.{SweptEdge, held, next_swept}
use Rattle.std.proofs.Common.{Option}
use Rattle.catalogue.specs.declared.links.Link.{Link}
use Rattle.laws.proofs.Gathers.{length_table}
use Rattle.laws.proofs.Members.{All, keep_all}
use Rattle.laws.proofs.Walks.{Ends, run_walk}
use Rattle.resting.specs.Kept.{row, In}
use Rattle.resting.proofs.Rows.{all_row, map_row, row_ends}
use Rattle.resting.proofs.SweptReads.{new_keys, head_at, vertex_at, vertex_key_at}

module _ (keys : List ℤ) (es : List SweptEdge) (few : length keys ≤ most_vertices) where
  abbrev count : ℕ
  count = length keys

  abbrev to : Option (Link ℕ) → ℕ
  to l = at_link l tail (λ next tag. next)

  pub vertices_end : Ends (next_vertex (held keys es)) tail (next_vertex (held keys es) head) (row 2 count)
  unfolding next_swept
  vertices_end =
      subst (λ (y : ℕ). Ends (next_vertex (held keys es)) tail y (row 2 count)) (sym (ap to (head_at keys es few)))
      (row_ends (next_vertex (held keys es)) tail (2 + count) 2 count refl (λ i a b. (ap to (vertex_at keys es few i a b), omega arith)))

  pub vertices_row : vertices (held keys es) ≡ row 2 count
  vertices_row =
      run_walk (next_vertex (held keys es)) tail vertex_pool (next_vertex (held keys es) head) (row 2 count) vertices_end
      (omega (arith, length_table (λ i. i) 2 count, few))

  pub unmarked_at : (i : ℕ) → 2 ≤ i → i < 2 + count → unmarked (held keys es) i ≡ true
  unmarked_at i a b = ap (λ l. at_mark l false false true) (vertex_at keys es few i a b)

  pub live_row : live_vertices (held keys es) ≡ row 2 count
  live_row = ap (keep (unmarked (held keys es))) vertices_row ∙ keep_all (unmarked (held keys es)) (row 2 count) (all_row (λ i. unmarked (held keys es) i ≡ true) 2 count unmarked_at)

  pub keys_row : map (vertex_key (held keys es)) (row 2 count) ≡ keys
  keys_row =
      map_row (pos 0) (vertex_key (held keys es)) keys 2 count refl
      (λ j b. vertex_key_at keys es (2 + j) (omega arith) ∙ ap (λ i. get_or (new_keys keys) i (pos 0)) (let e : 2 + j ≡ suc (suc j) = omega arith in e))

  pub keys_held : live_keys (held keys es) ≡ keys
  keys_held = ap (map (vertex_key (held keys es))) live_row ∙ keys_row

  -- what holds of each number holds of all vertices
  pub each_vertex : (P : ℕ → Type 0) → ((i : ℕ) → In keys i → P i) → All P (live_vertices (held keys es))
  each_vertex P h = rw live_row (all_row P 2 count (λ i a b. h i (a, b)))
