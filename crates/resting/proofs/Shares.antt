-- When keys and edges fit a catalogue. Then the edges of one vertex stand in a row, and no other edge has its source.
use Prim.Native.Nat.{ℕ, suc, ◌+◌, ◌-◌, ◌<◌, ◌≤◌}
use mathlib.Core.List.{List, ◌∷◌, ◌++◌, map}
use mathlib.Core.Path.{◌≡◌, refl, sym, ap, subst, ◌∙◌}
use native.Mathlib.Omega.{arith}
use lib.IntN.{ℤ, pos}
use lib.ListN.{length, get_or, length-map, length-append, get_or-map}
use lib.Dec.{ltb}
use lib.Signed.{◌<ℤ◌}
use borrow.Author.Tests.{ltb-true}
use Rattle.catalogue.specs.Tests.{pick}
use Rattle.catalogue.specs.Numbers.{edge_tail, edge_pool, most_vertices, most_edges, greatest, added, plain, some_link}
use Rattle.catalogue.specs.Catalogue.{edge_key, edge_link, first_link, at_link}
use Rattle.catalogue.specs.Live.{next_edge, first_edge, edges_of, gather}
use Rattle.catalogue.specs.Sweep.{SweptEdge, held, next_swept_edge}
use Rattle.std.proofs.Common.{Option}
use Rattle.catalogue.specs.declared.links.Link.{Link}
use Rattle.laws.proofs.Picks.{pick_both}
use Rattle.laws.proofs.Members.{All, all_each, all_gather}
use Rattle.laws.proofs.Keys.{Rising}
use Rattle.laws.proofs.Walks.{Ends, run_walk}
use Rattle.laws.proofs.Gathers.{length_table, gather_append}
use Rattle.resting.specs.Kept.{row, In, start, size, stop}
use Rattle.resting.proofs.Rows.{all_row, row_split, map_row, row_ends}
use Rattle.resting.proofs.Blocks.{blank, From, Elsewhere, Together, first_there, stands, next_there}
use Rattle.resting.proofs.SweptReads.{new_keys, edge_key_at, first_at, edge_at}

-- an edge leads to a number that has its key
pub record Aimed (keys : List ℤ) (d : SweptEdge) : Type 0 where
  pub low : 2 ≤ d.target
  pub high : d.target < 2 + length keys
  pub keyed : get_or (new_keys keys) d.target (pos 0) ≡ d.key

-- Keys that rise, and edges by source and then by key; `share` has those of each source.
pub record Fits (keys : List ℤ) (es : List SweptEdge) (share : ℕ → List SweptEdge) : Type 0 where
  pub few : length keys ≤ most_vertices
  pub edges_few : length es ≤ most_edges
  pub rising : Rising keys
  pub under : All (λ k. k <ℤ greatest) keys
  pub shared : es ≡ gather share (row 2 (length keys))
  pub own : (i : ℕ) → In keys i → From i (share i)
  pub climbing : (i : ℕ) → In keys i → Rising (map (λ d. d.key) (share i))
  pub aimed : All (Aimed keys) es

module _ {keys : List ℤ} {es : List SweptEdge} {share : ℕ → List SweptEdge} (f : Fits keys es share) (i : ℕ) (r : In keys i) where
  abbrev before : List SweptEdge
  before = gather share (row 2 (i - 2))

  abbrev behind : List ℕ
  behind = row (suc i) (2 + length keys - suc i)

  -- the edges of another vertex have another source
  away : (from n : ℕ) → ((j : ℕ) → from ≤ j → j < from + n → In keys j × (j ≡ i → ⊥)) → Elsewhere i (gather share (row from n))
  away from n h =
      all_gather (λ d. d.source ≡ i → ⊥) share (row from n)
      (all_row (λ j. Elsewhere i (share j)) from n (λ j a b. let k = h j a b in
      all_each (λ d. d.source ≡ j) (λ d. d.source ≡ i → ⊥) (λ d p q. k.1 (sym p ∙ q)) (share j) (f.own j k.0)))

  pub together : Together i es before (share i) (gather share behind)
  unfolding gather
  together =
      record {
        parts = f.shared ∙ ap (gather share) (row_split 2 (length keys) i r.0 r.1) ∙ gather_append share (row 2 (i - 2)) (i ∷ behind);
        not_before = away 2 (i - 2) (λ j a b. (omega arith, λ q. omega arith));
        all_there = f.own i r;
        not_behind = away (suc i) (2 + length keys - suc i) (λ j a b. (omega arith, λ q. omega arith));
      }

  pub row_low : stop share i ≤ suc (length es)
  row_low = omega (arith, ap length together.parts, length-append before (share i ++ gather share behind), length-append (share i) (gather share behind))

  in_pool : (e : ℕ) → pick (ltb e (stop share i)) e edge_tail < edge_pool
  in_pool e = pick_both (λ k. k < 2048) (ltb e (stop share i)) e edge_tail (λ q. omega (arith, ltb-true e (stop share i) q, row_low, f.edges_few)) (λ q. omega arith)

  pub link_row : (e : ℕ) → start share i ≤ e → e < stop share i → edge_link (held keys es) e ≡ some_link (pick (ltb (suc e) (stop share i)) (suc e) edge_tail) added
  link_row e a b =
      let next : next_swept_edge es e ≡ pick (ltb (suc e) (stop share i)) (suc e) edge_tail = next_there together (omega arith) e a b in
      edge_at keys es e (omega arith) (omega (arith, row_low)) (omega (arith, row_low, f.edges_few)) (rw next (in_pool (suc e))) ∙ ap (λ k. some_link k added) next

  pub first_link_row : first_link (held keys es) i ≡ some_link (pick (ltb (start share i) (stop share i)) (start share i) edge_tail) plain
  first_link_row = first_at keys es i (rw (first_there together) (in_pool (start share i))) ∙ ap (λ k. some_link k plain) (first_there together)

  abbrev to : Option (Link ℕ) → ℕ
  to l = at_link l edge_tail (λ next tag. next)

  pub edges_end : Ends (next_edge (held keys es)) edge_tail (first_edge (held keys es) i) (row (start share i) (size share i))
  edges_end =
      subst (λ (y : ℕ). Ends (next_edge (held keys es)) edge_tail y (row (start share i) (size share i))) (sym (ap to first_link_row))
      (row_ends (next_edge (held keys es)) edge_tail (stop share i) (start share i) (size share i) refl (λ e a b. (ap to (link_row e a b), omega arith)))

  pub edges_row : edges_of (held keys es) i ≡ row (start share i) (size share i)
  edges_row =
      run_walk (next_edge (held keys es)) edge_tail edge_pool (first_edge (held keys es) i) (row (start share i) (size share i)) edges_end
      (omega (arith, length_table (λ e. e) (start share i) (size share i), row_low, f.edges_few))

  pub edge_keys_row : map (edge_key (held keys es)) (row (start share i) (size share i)) ≡ map (λ d. d.key) (share i)
  edge_keys_row =
      map_row (pos 0) (edge_key (held keys es)) (map (λ d. d.key) (share i)) (start share i) (size share i) (length-map (share i) (λ d. d.key))
      (λ j b. ap (edge_key (held keys es)) (let e : start share i + j ≡ suc (length before + j) = omega arith in e)
      ∙ edge_key_at keys es (length before + j) ∙ ap (λ d. d.key) (stands together j b) ∙ sym (get_or-map (λ d. d.key) (share i) j blank))
