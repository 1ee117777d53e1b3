-- A sound catalogue's result fits the output. A key of 32 bits takes at most twelve bytes,
-- and there are at most 256 live vertices and 2,047 live edges.
use Prim.Native.Nat.{ℕ, ◌+◌, ◌*◌, ◌≤◌}
use mathlib.Core.Bool.{true}
use mathlib.Core.List.{List, [], ◌∷◌, ◌++◌, map, map-map}
use mathlib.Core.Path.{◌≡◌, ap}
use native.Mathlib.Omega.{arith}
use native.Mathlib.Nat.{mul-suc}
use mir.Syntax.{w32}
use mir.Val.{Fits, SFits}
use lib.Dec.{eqb}
use lib.IntN.{ℤ, pos}
use lib.ListN.{length, length-append}
use Rattle.catalogue.specs.Numbers.{tail, edge_tail, greatest}
use Rattle.catalogue.specs.Catalogue.{Catalogue, vertex_key_in, edge_key_in, vertex_key, edge_key}
use Rattle.catalogue.specs.Lent.{output_size}
use Rattle.catalogue.specs.Listing.{ReplyLine, reply_numbers, contents, added_edges, vertex_lines, edge_lines, result_text}
use Rattle.catalogue.specs.Live.{live_vertices, live_edges}
use Rattle.catalogue.specs.Soundness.{Asks, sound}
use Rattle.catalogue.specs.Text.{line, lines}
use Rattle.laws.proofs.Picks.{pick_both}
use Rattle.text.proofs.LineLaws.{AllShort, length_line, length_short}
use Rattle.text.proofs.Naturals.{natural_short}
use Rattle.listing.proofs.Whole.{lines_append}
use Rattle.listing.proofs.Results.{few_vertices, few_added, text_parts}
use Rattle.resting.proofs.Sound.{edges_few}

-- keys of 32 bits, as those of lent memory are
pub record Keyed (C : Catalogue) : Type 0 where
  pub vertex : (n : ℕ) → SFits w32 (C.vertices.key n)
  pub edge : (n : ℕ) → SFits w32 (C.edges.key n)

-- lines of at most so many bytes each; for replies as for nodes
pub rows_short : {A : Type 0} (most : ℕ) (row : A → List ℤ) → ((x : A) → length (line (row x)) ≤ most) → (l : List A) → length (lines (map row l)) ≤ most * length l
unfolding lines
rows_short most row short [] = omega arith
rows_short most row short (x ∷ xs) =
    omega (arith, length-append (line (row x)) (lines (map row xs)), short x, rows_short most row short xs, mul-suc most (length xs))

module _ (C : Catalogue) (keyed : Keyed C) where
  vertex_held : (x : ℕ) → SFits w32 (vertex_key C x)
  unfolding vertex_key_in
  vertex_held x = pick_both (SFits w32) (eqb x tail) greatest (C.vertices.key x) (λ e. record { sfits = omega arith }) (λ e. keyed.vertex x)

  edge_held : (e : ℕ) → SFits w32 (edge_key C e)
  unfolding edge_key_in
  edge_held e = pick_both (SFits w32) (eqb e edge_tail) greatest (C.edges.key e) (λ q. record { sfits = omega arith }) (λ q. keyed.edge e)

  pub body_fits : length (lines (vertex_lines C ++ edge_lines C)) ≤ 3072 + 24 * length (live_edges C)
  body_fits =
      omega (
        arith,
        few_vertices C,
        ap length (lines_append (vertex_lines C) (edge_lines C)),
        length-append (lines (vertex_lines C)) (lines (edge_lines C)),
        ap (λ l. length (lines l)) (map-map (λ k. k ∷ []) (vertex_key C) (live_vertices C)),
        rows_short 12 (λ x. vertex_key C x ∷ []) (λ x. length_line (vertex_key C x) [] (vertex_held x, tt)) (live_vertices C),
        ap (λ l. length (lines l)) (map-map (λ (p : ℤ × ℤ). p.0 ∷ p.1 ∷ []) (λ d. (vertex_key C d.source, edge_key C d.edge)) (live_edges C)),
        rows_short 24 (λ d. vertex_key C d.source ∷ edge_key C d.edge ∷ [])
            (λ d. length_line (vertex_key C d.source) (edge_key C d.edge ∷ []) (vertex_held d.source, (edge_held d.edge, tt))) (live_edges C),
      )

  module _ (asks : Asks) (e : sound asks C ≡ true) where
    -- with replies, for whose lines 13,300 bytes are left
    pub result_fits : (replies : List ReplyLine) → Fits w32 (length replies) → length (lines (map reply_numbers replies)) ≤ 13300
        → length (result_text C replies) ≤ output_size
    result_fits replies f short =
        let numbers : AllShort (contents C replies) =
        (natural_short (length replies) f, (natural_short _ (record { fits = omega (arith, few_vertices C) }), (natural_short _ (record { fits = omega (arith, few_added C) }), tt))) in
        let told : List ℕ = lines (map reply_numbers replies) in
        let body : List ℕ = lines (vertex_lines C ++ edge_lines C) in
        omega (
          arith,
          body_fits,
          edges_few asks C e,
          ap length (text_parts C replies),
          length-append (line (contents C replies)) (told ++ body),
          length-append told body,
          length_short (pos (length replies)) (pos (length (live_vertices C)) ∷ (pos (length (added_edges C)) ∷ [])) numbers,
        )

    -- by itself
    pub listing_fits : length (result_text C []) ≤ output_size
    unfolding lines
    listing_fits = result_fits [] (record { fits = omega arith }) (omega arith)
