-- The live graph of a catalogue that holds keys and edges is that of the keys and edges.
use Prim.Native.Nat.{ℕ}
use mathlib.Core.List.{List, map, map-map}
use mathlib.Core.Path.{◌≡◌, sym, ap, ◌∙◌}
use lib.IntN.{ℤ, pos}
use lib.ListN.{length, length-map, get_or}
use Rattle.catalogue.specs.Catalogue.{Catalogue, vertex_key, edge_key}
use Rattle.catalogue.specs.Live.{live_vertices, live_edges_of, live_edges, live_pairs, gather}
use Rattle.catalogue.specs.Sweep.{SweptEdge, held}
use Rattle.laws.proofs.Members.{all_each, map_same}
use Rattle.laws.proofs.Gathers.{gather_same, map_gather, live_made}
use Rattle.resting.specs.Kept.{row, In, start, size}
use Rattle.resting.proofs.Rows.{all_row}
use Rattle.resting.proofs.SweptReads.{new_keys, vertex_key_at}
use Rattle.resting.proofs.Shape.{live_row}
use Rattle.resting.proofs.Shares.{Fits, edge_keys_row}
use Rattle.resting.proofs.Targets.{live_edges_row}

-- the keys of an edge's ends
abbrev pub pair_of : List ℤ → SweptEdge → ℤ × ℤ
pair_of keys d = (get_or (new_keys keys) d.source (pos 0), d.key)

module _ {keys : List ℤ} {es : List SweptEdge} {share : ℕ → List SweptEdge} (f : Fits keys es share) where
  abbrev D : Catalogue
  D = held keys es

  pairs_row : (i : ℕ) → In keys i → map (λ e. (vertex_key D i, edge_key D e)) (live_edges_of D i) ≡ map (pair_of keys) (share i)
  pairs_row i r =
      let key : ℤ = vertex_key D i in
      ap (map (λ e. (key, edge_key D e))) (live_edges_row f i r)
      ∙ sym (map-map (λ k. (key, k)) (edge_key D) (row (start share i) (size share i)))
      ∙ ap (map (λ k. (key, k))) (edge_keys_row f i r)
      ∙ map-map (λ k. (key, k)) (λ d. d.key) (share i)
      ∙ map_same (λ d. (key, d.key)) (pair_of keys) (share i) (all_each (λ d. d.source ≡ i) (λ d. (key, d.key) ≡ pair_of keys d)
      (λ d q. ap (λ k. (k, d.key)) (vertex_key_at keys es i r.0 ∙ ap (λ j. get_or (new_keys keys) j (pos 0)) (sym q))) (share i) (f.own i r))

  pub pairs_held : live_pairs D ≡ map (pair_of keys) es
  pairs_held =
      let pairs : ℕ → List (ℤ × ℤ) = λ i. map (λ e. (vertex_key D i, edge_key D e)) (live_edges_of D i) in
      live_made (λ i e. (vertex_key D i, edge_key D e)) (live_edges_of D) (live_vertices D)
      ∙ ap (gather pairs) (live_row keys es f.few)
      ∙ gather_same pairs (λ i. map (pair_of keys) (share i)) (row 2 (length keys))
      (all_row (λ i. pairs i ≡ map (pair_of keys) (share i)) 2 (length keys) (λ i a b. pairs_row i (a, b)))
      ∙ sym (map_gather (pair_of keys) share (row 2 (length keys)))
      ∙ ap (map (pair_of keys)) (sym f.shared)

  pub edges_many : length (live_edges D) ≡ length es
  edges_many = sym (length-map (live_edges D) (λ d. (vertex_key D d.source, edge_key D d.edge))) ∙ ap length pairs_held ∙ length-map es (pair_of keys)
