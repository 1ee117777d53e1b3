-- The edges of a live vertex of a sound catalogue: their keys rise, and each live one leads to a live vertex of its
-- key. So the keys and edges that a sweep takes over fit.
use Prim.Native.Nat.{ℕ, ◌+◌, ◌-◌}
use mathlib.Core.Bool.{true, false}
use mathlib.Core.List.{map, map-map}
use mathlib.Core.Path.{◌≡◌, sym, ap, ◌∙◌}
use native.Mathlib.Omega.{arith}
use lib.IntN.{pos}
use lib.ListN.{length, length-map, get_or}
use lib.Signed.{◌<ℤ◌}
use Rattle.catalogue.specs.Tests.{eq_z, every, member}
use Rattle.catalogue.specs.Numbers.{edge_tail, edge_pool}
use Rattle.catalogue.specs.Catalogue.{Catalogue, vertex_key, vertex_link, first_link, edge_key, edge_link, edge_target, at_target}
use Rattle.catalogue.specs.Live.{next_edge, first_edge, vertices, edges_of, unmarked, is_added, is_live, live_vertices, live_edges_of, live_edges, live_keys, gather}
use Rattle.catalogue.specs.Soundness.{Asks, tag_fits, edge_sound, edges_sound, target_sound, sound}
use Rattle.catalogue.specs.Sweep.{SweptEdge, swept_edge, swept_edges, renumbered}
use Rattle.std.proofs.Common.{Option, Some, None}
use Rattle.laws.proofs.Picks.{clash, both_true}
use Rattle.laws.proofs.Rules.{eq_z_eq}
use Rattle.laws.proofs.Members.{All, all_each, all_any, all_at, all_keep, all_map, every_all, member_keep}
use Rattle.laws.proofs.Gathers.{gather_map, live_made, all_live}
use Rattle.laws.proofs.Keys.{Rising, rising_keep}
use Rattle.laws.proofs.Walks.{Climbs, walk_rising}
use Rattle.resting.specs.Kept.{row, In, old, share}
use Rattle.resting.proofs.Rows.{map_row}
use Rattle.resting.proofs.Places.{place_two, place_from, place_below, place_reads, place_nth}
use Rattle.resting.proofs.SweptReads.{new_keys}
use Rattle.resting.proofs.Shares.{Aimed, Fits}
use Rattle.resting.proofs.Sound.{edge_rises, whole, met, edges_few, lists_sound}
use Rattle.resting.proofs.Vertices.{live_distinct, live_few, live_rising, live_under}

-- an edge whose target is sound and without a mark
abbrev pub Lives : Catalogue → ℕ → Type 0
Lives C e = (at_target (edge_target C e) false (unmarked C) ≡ true) × (at_target (edge_target C e) false (target_sound C e) ≡ true)

-- such a target is a live vertex
pub live_target : (C : Catalogue) (e y : ℕ) → unmarked C y ≡ true → target_sound C e y ≡ true → member y (live_vertices C) ≡ true
live_target C e y u t =
    member_keep (unmarked C) y (vertices C)
    (met (member y (vertices C)) (vertex_link C y) u (both_true (eq_z (vertex_key C y) (edge_key C e)) _ t).1)
    u

-- a live vertex has its key at its new number
pub new_place : (C : Catalogue) (y : ℕ) → member y (live_vertices C) ≡ true → get_or (new_keys (live_keys C)) (renumbered C y) (pos 0) ≡ vertex_key C y
new_place C y m = ap (λ p. get_or (new_keys (live_keys C)) p (pos 0)) (place_two y (live_vertices C)) ∙ place_reads y (vertex_key C) (pos 0) (live_vertices C) m

module _ (C : Catalogue) (x e : ℕ) where
  abbrev aims : ℕ → SweptEdge
  aims target = record { source = renumbered C x; target = target; key = edge_key C e }

  aimed_at : (l : Option ℕ) → at_target l false (unmarked C) ≡ true → at_target l false (target_sound C e) ≡ true
      → Aimed (live_keys C) (aims (at_target l 0 (renumbered C)))
  aimed_at (Some y) u t =
      let m = live_target C e y u t in
      record {
        low = place_from y (live_vertices C) 2;
        high = omega (arith, place_below y (live_vertices C) 2 m, length-map (live_vertices C) (vertex_key C));
        keyed = new_place C y m ∙ eq_z_eq (vertex_key C y) (edge_key C e) (both_true (eq_z (vertex_key C y) (edge_key C e)) _ t).0;
      }
  aimed_at None u t = clash (cc)

module _ (asks : Asks) (C : Catalogue) (x : ℕ) (s : edges_sound asks C x ≡ true) where
  abbrev Good : ℕ → Type 0
  Good e = (edge_key C e <ℤ edge_key C (next_edge C e)) × (at_target (edge_target C e) false (target_sound C e) ≡ true)

  good : All Good (edges_of C x)
  good =
      all_each (λ e. edge_sound asks C e ≡ true) Good
      (λ e h. edge_rises (edge_key C e) (edge_key C) (tag_fits asks) (at_target (edge_target C e) false (target_sound C e)) (edge_link C e) h) (edges_of C x)
      (every_all (edge_sound asks C) (edges_of C x) (whole (every (edge_sound asks C) (edges_of C x)) (first_link C x) s))

  climb : Climbs (next_edge C) edge_tail (edge_key C) (edges_of C x)
  climb = all_each Good (λ e. edge_key C e <ℤ edge_key C (next_edge C e)) (λ e g. g.0) (edges_of C x) good

  edges_rising : Rising (map (edge_key C) (live_edges_of C x))
  edges_rising = rising_keep (edge_key C) (is_live C) (edges_of C x) (walk_rising (next_edge C) edge_tail (edge_key C) edge_pool (first_edge C x) climb)

  pub targets_live : All (Lives C) (live_edges_of C x)
  targets_live =
      all_each (λ e. Good e × (is_live C e ≡ true)) (Lives C)
      (λ e h. ((both_true (is_added C e) _ h.1).1, h.0.1)) (live_edges_of C x) (all_keep Good (is_live C) (edges_of C x) good)

module _ (asks : Asks) (C : Catalogue) (s : sound asks C ≡ true) where
  many : length (live_keys C) ≡ length (live_vertices C)
  many = length-map (live_vertices C) (vertex_key C)

  pub of_old : (P : ℕ → Type 0) → All P (live_vertices C) → (i : ℕ) → In (live_keys C) i → P (old C i)
  of_old P h i r = all_at P 0 (live_vertices C) (i - 2) h (omega (arith, many))

  pub new_number : (i : ℕ) → In (live_keys C) i → renumbered C (old C i) ≡ i
  new_number i r = place_nth (live_vertices C) 2 (i - 2) (live_distinct asks C s) (omega (arith, many)) ∙ (let e : 2 + (i - 2) ≡ i = omega arith in e)

  shared : swept_edges C ≡ gather (share C) (row 2 (length (live_keys C)))
  shared =
      live_made (swept_edge C) (live_edges_of C) (live_vertices C)
      ∙ ap (gather (λ x. map (swept_edge C x) (live_edges_of C x))) (sym (map_row 0 (old C) (live_vertices C) 2 (length (live_keys C)) (sym many)
      (λ j b. ap (λ k. get_or (live_vertices C) k 0) (let e : 2 + j - 2 ≡ j = omega arith in e))))
      ∙ gather_map (λ x. map (swept_edge C x) (live_edges_of C x)) (old C) (row 2 (length (live_keys C)))

  aimed : All (λ d. Aimed (live_keys C) (swept_edge C d.source d.edge)) (live_edges C)
  aimed =
      all_live (λ x e. Aimed (live_keys C) (swept_edge C x e)) (live_edges_of C) (live_vertices C)
      (all_each (λ x. edges_sound asks C x ≡ true) (λ x. All (λ e. Aimed (live_keys C) (swept_edge C x e)) (live_edges_of C x))
      (λ x h. all_each (Lives C) (λ e. Aimed (live_keys C) (swept_edge C x e)) (λ e l. aimed_at C x e (edge_target C e) l.0 l.1) (live_edges_of C x) (targets_live asks C x h))
      (live_vertices C) (lists_sound asks C s))

  pub swept_fits : Fits (live_keys C) (swept_edges C) (share C)
  swept_fits = record {
    few = omega (arith, many, live_few asks C s);
    edges_few = omega (arith, length-map (live_edges C) (λ d. swept_edge C d.source d.edge), edges_few asks C s);
    rising = live_rising asks C s;
    under = live_under asks C s;
    shared = shared;
    own = λ i r. all_map (λ d. d.source ≡ i) (swept_edge C (old C i)) (live_edges_of C (old C i))
        (all_any (λ e. renumbered C (old C i) ≡ i) (λ e. new_number i r) (live_edges_of C (old C i)));
    climbing = λ i r. rw (map-map (λ d. d.key) (swept_edge C (old C i)) (live_edges_of C (old C i)))
        (edges_rising asks C (old C i) (of_old (λ x. edges_sound asks C x ≡ true) (lists_sound asks C s) i r));
    aimed = all_map (Aimed (live_keys C)) (λ d. swept_edge C d.source d.edge) (live_edges C) aimed;
  }
