-- A walk from the head with the fuel of the whole pool gives the lines and the counts of a listing.
use Prim.Native.Nat.{ℕ, ◌+◌, ◌*◌, ◌≤◌}
use mathlib.Core.List.{List, [], ◌∷◌, ◌++◌, map, map-map, append_assoc}
use mathlib.Core.Path.{◌≡◌, refl, sym, ap, ◌∙◌}
use native.Mathlib.Omega.{arith}
use lib.IntN.{ℤ}
use lib.ListN.{length, length-append}
use borrow.Author.Rules.{rules}
use Rattle.catalogue.specs.Numbers.{head, vertex_pool}
use Rattle.catalogue.specs.Catalogue.{Catalogue, vertex_key, edge_key}
use Rattle.catalogue.specs.Live.{gather, next_vertex, live_vertices, live_edges_of, live_edges}
use Rattle.catalogue.specs.Listing.{vertex_lines, edge_lines, added_edges}
use Rattle.catalogue.specs.Text.{lines, line}
use Rattle.catalogue.specs.Lent.{catalogue_in}
use Rattle.text.specs.Puts.{put_at}
use Rattle.text.proofs.Runs.{put_then, end_then}
use Rattle.laws.proofs.Gathers.{live_many, live_made}
use Rattle.survey.specs.Walks.{linked}
use Rattle.listing.specs.Walks.{kept_from, vertex_line, edge_line, unmarked_from, vertex_text, edges_text, live_of, added_of}
use Rattle.listing.proofs.Listed.{had_room}

pub lines_append : (a b : List (List ℤ)) → lines (a ++ b) ≡ lines a ++ lines b
unfolding lines
lines_append [] b = refl
lines_append (l ∷ a) b = ap (λ t. line l ++ t) (lines_append a b) ∙ sym (append_assoc (line l) (lines a) (lines b))

lines_map : (row : ℕ → List ℤ) (l : List ℕ) → gather (λ x. line (row x)) l ≡ lines (map row l)
unfolding lines gather
lines_map row [] = refl
lines_map row (x ∷ xs) = ap (λ t. line (row x) ++ t) (lines_map row xs)

lines_gather : (bytes : ℕ → List ℕ) (rows : ℕ → List (List ℤ)) → ((x : ℕ) → bytes x ≡ lines (rows x)) → (l : List ℕ) → gather bytes l ≡ lines (gather rows l)
unfolding lines gather
lines_gather bytes rows same [] = refl
lines_gather bytes rows same (x ∷ xs) =
    ap (λ t. t ++ gather bytes xs) (same x) ∙ ap (λ t. lines (rows x) ++ t) (lines_gather bytes rows same xs) ∙ sym (lines_append (rows x) (gather rows xs))

module _ (C : Catalogue) where
  abbrev first : ℕ
  first = next_vertex C head

  pub whole_vertices : unmarked_from C vertex_pool first ≡ live_vertices C
  unfolding kept_from
  whole_vertices = refl

  pub whole_added : gather (added_of C) (unmarked_from C vertex_pool first) ≡ added_edges C
  unfolding kept_from
  whole_added = refl

  pub whole_live : length (gather (live_of C) (unmarked_from C vertex_pool first)) ≡ length (live_edges C)
  unfolding kept_from
  whole_live = sym (live_many (live_edges_of C) (live_vertices C))

  pub whole_vertex_text : vertex_text C vertex_pool first ≡ lines (vertex_lines C)
  unfolding kept_from vertex_line
  whole_vertex_text = lines_map (λ x. vertex_key C x ∷ []) (live_vertices C) ∙ ap lines (sym (map-map (λ k. k ∷ []) (vertex_key C) (live_vertices C)))

  pub whole_edges_text : edges_text C vertex_pool first ≡ lines (edge_lines C)
  unfolding kept_from edge_line
  whole_edges_text =
      lines_gather _ (λ x. map (λ e. vertex_key C x ∷ edge_key C e ∷ []) (live_edges_of C x))
      (λ x. lines_map (λ e. vertex_key C x ∷ edge_key C e ∷ []) (live_edges_of C x))
      (live_vertices C)
      ∙ ap lines (sym (map-map (λ p. p.0 ∷ p.1 ∷ []) _ (live_edges C) ∙ live_made (λ x e. vertex_key C x ∷ edge_key C e ∷ []) (live_edges_of C) (live_vertices C)))

-- the calls of a listing; the first node is the one that the head leads to
module _ (words : List ℕ) (n : ℕ) (from : n ≡ next_vertex (linked words) head) where
  pub vertices_counted : (r : ℕ) → r ≡ length (unmarked_from (linked words) vertex_pool n) → r ≡ length (live_vertices (linked words))
  vertices_counted r e = e ∙ ap (λ m. length (unmarked_from (linked words) vertex_pool m)) from ∙ ap length (whole_vertices (linked words))

  pub added_counted : (r : ℕ) → r ≡ length (gather (added_of (linked words)) (unmarked_from (linked words) vertex_pool n)) → r ≡ length (added_edges (linked words))
  added_counted r e =
      e ∙ ap (λ m. length (gather (added_of (linked words)) (unmarked_from (linked words) vertex_pool m))) from ∙ ap length (whole_added (linked words))

  live_all : length (gather (live_of (linked words)) (unmarked_from (linked words) vertex_pool n)) ≡ length (live_edges (linked words))
  live_all =
      ap (λ k. length (gather (live_of (linked words)) (unmarked_from (linked words) vertex_pool k))) from ∙ whole_live (linked words)

  pub edges_room : (at mid : ℕ) (l m : List ℕ) → at + 3072 + 24 * length (live_edges (linked words)) ≤ length l
      → mid ≤ at + 12 * vertex_pool → length m ≡ length l → mid + 24 * length (gather (live_of (linked words)) (unmarked_from (linked words) vertex_pool n)) ≤ length m
  edges_room at mid l m room within long = omega (arith, live_all)

  pub body_within : (at mid last : ℕ) → mid ≤ at + 12 * vertex_pool → last ≤ mid + 24 * length (gather (live_of (linked words)) (unmarked_from (linked words) vertex_pool n))
      → last ≤ at + 3072 + 24 * length (live_edges (linked words))
  body_within at mid last first second = omega (arith, live_all)

  module _ (keys : List ℤ) (at mid : ℕ) (began : mid ≡ at + length (vertex_text (catalogue_in keys words) vertex_pool n)) where
    abbrev C : Catalogue
    C = catalogue_in keys words

    abbrev vertex_part : List ℕ
    vertex_part = vertex_text C vertex_pool n

    abbrev edge_part : List ℕ
    edge_part = edges_text C vertex_pool n

    parts : vertex_part ++ edge_part ≡ lines (vertex_lines C ++ edge_lines C)
    parts =
        ap (λ k. vertex_text C vertex_pool k ++ edges_text C vertex_pool k) from
        ∙ ap (λ t. t ++ edges_text C vertex_pool (next_vertex C head)) (whole_vertex_text C)
        ∙ ap (λ t. lines (vertex_lines C) ++ t) (whole_edges_text C)
        ∙ sym (lines_append (vertex_lines C) (edge_lines C))

    pub body_put : (l m k : List ℕ) (more : ℕ) → m ≡ put_at l at vertex_part → k ≡ put_at m mid edge_part → length m ≡ length l → length k ≡ length m
        → at + 3072 + more ≤ length l → k ≡ put_at l at (lines (vertex_lines C ++ edge_lines C))
    body_put l m k more one two long longer room =
        let lead : at + length vertex_part ≤ length l = had_room l m at 0 vertex_part one long (omega arith) in
        let rest : mid + length edge_part ≤ length m = had_room m k mid 0 edge_part two longer (omega arith) in
        put_then at mid vertex_part edge_part began l m k one two (omega (arith, length-append vertex_part edge_part)) ∙ ap (put_at l at) parts

    pub body_end : (last : ℕ) → last ≡ mid + length edge_part → last ≡ at + length (lines (vertex_lines C ++ edge_lines C))
    body_end last two = end_then at mid vertex_part edge_part began last two ∙ ap (λ b. at + length b) parts

pub ruleset whole_cases = (vertices_counted, added_counted, edges_room, body_within, body_put, body_end, rules)
