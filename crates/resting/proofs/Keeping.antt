-- A sweep of a sound catalogue keeps what specs/Kept.antt says.
use Prim.Native.Nat.{ℕ}
use mathlib.Core.Bool.{true}
use mathlib.Core.List.{List, map, map-map}
use mathlib.Core.Path.{◌≡◌, refl, sym, ap, ◌∙◌}
use native.Mathlib.Omega.{arith}
use lib.IntN.{ℤ, pos}
use lib.ListN.{length, length-map, get_or}
use lib.Signed.{◌<ℤ◌, ◌≤ℤ◌}
use Rattle.catalogue.specs.Tests.{every, keep, member}
use Rattle.catalogue.specs.Numbers.{head, least}
use Rattle.catalogue.specs.Catalogue.{Catalogue, vertex_key, edge_key}
use Rattle.catalogue.specs.Live.{edges_of, unmarked, is_added, is_live, live_vertices, live_edges_of, live_edges, live_keys, live_pairs, gather}
use Rattle.catalogue.specs.Soundness.{Asks, sound}
use Rattle.catalogue.specs.Sweep.{SweptEdge, swept_edge, swept_edges, swept}
use Rattle.laws.proofs.Pools.{live_added}
use Rattle.laws.proofs.Members.{All, all_each, all_any, all_every, all_of, all_member, keep_all, map_same}
use Rattle.laws.proofs.Keys.{≤ℤ-<ℤ-trans}
use Rattle.laws.proofs.Gathers.{gather_same, all_live}
use Rattle.resting.specs.Kept.{row, In, old, share, Kept, SweepKeeps}
use Rattle.resting.proofs.Rows.{all_row}
use Rattle.resting.proofs.Sound.{edges_few}
use Rattle.resting.proofs.Vertices.{live_over}
use Rattle.resting.proofs.SweptReads.{new_keys, handed_out, vertex_key_at}
use Rattle.resting.proofs.Shape.{vertices_row, live_row, keys_held, unmarked_at, each_vertex}
use Rattle.resting.proofs.Shares.{Fits, edges_row, edge_keys_row}
use Rattle.resting.proofs.Targets.{leads, list_live}
use Rattle.resting.proofs.Standing.{source_in, source_row, numbers_row, edge_lives}
use Rattle.resting.proofs.Lines.{pair_of, pairs_held}
use Rattle.resting.proofs.Resound.{bits_least, held_sound}
use Rattle.resting.proofs.Edges.{new_place, of_old, new_number, swept_fits}

module _ (asks : Asks) (C : Catalogue) (s : sound asks C ≡ true) where
  abbrev keys : List ℤ
  keys = live_keys C

  abbrev es : List SweptEdge
  es = swept_edges C

  abbrev f : Fits keys es (share C)
  f = swept_fits asks C s

  pairs_kept : live_pairs (swept C) ≡ live_pairs C
  pairs_kept =
      pairs_held f ∙ map-map (pair_of keys) (λ d. swept_edge C d.source d.edge) (live_edges C)
      ∙ map_same (λ d. pair_of keys (swept_edge C d.source d.edge)) (λ d. (vertex_key C d.source, edge_key C d.edge)) (live_edges C)
      (all_live (λ x e. pair_of keys (swept_edge C x e) ≡ (vertex_key C x, edge_key C e)) (live_edges_of C) (live_vertices C)
      (all_each (λ x. member x (live_vertices C) ≡ true) _ (λ x m. all_any _ (λ e. ap (λ k. (k, edge_key C e)) (new_place C x m)) (live_edges_of C x))
      (live_vertices C) (all_member (live_vertices C))))

  sound_again : least ≤ℤ vertex_key C head → (asked : Asks) → sound asked (swept C) ≡ true
  sound_again h = held_sound f (all_each (λ k. vertex_key C head <ℤ k) (λ k. least <ℤ k) (λ k b. ≤ℤ-<ℤ-trans h b) keys (live_over asks C s))

  abbrev AllLive : ℕ → Type 0
  AllLive x = All (λ e. is_live (swept C) e ≡ true) (edges_of (swept C) x)

  -- what holds of a list with live edges only holds of the list of every live vertex
  each_live : (P : ℕ → Type 0) → ((x : ℕ) → AllLive x → P x) → All P (live_vertices (swept C))
  each_live P g = all_each AllLive P g (live_vertices (swept C)) (each_vertex keys es f.few AllLive (list_live f))

  number_key : (i : ℕ) → In keys i → vertex_key (swept C) i ≡ vertex_key C (old C i)
  number_key i r =
      vertex_key_at keys es i r.0 ∙ ap (λ k. get_or (new_keys keys) k (pos 0)) (sym (new_number asks C s i r))
      ∙ new_place C (old C i) (of_old asks C s (λ x. member x (live_vertices C) ≡ true) (all_member (live_vertices C)) i r)

  many : length es ≡ length (live_edges C)
  many = length-map (live_edges C) (λ d. swept_edge C d.source d.edge)

  all_kept : Kept C
  all_kept = record {
    same_keys = keys_held keys es f.few;
    same_pairs = pairs_kept;
    same_body = rw (keys_held keys es f.few, pairs_kept) refl;
    swept_sound = sound_again;
    swept_sound_bits = λ h. sound_again (bits_least (vertex_key C head) h);
    no_marks =
        all_every (unmarked (swept C)) _
        (rw (vertices_row keys es f.few) (all_row (λ x. unmarked (swept C) x ≡ true) 2 (length keys) (unmarked_at keys es f.few)));
    none_on_trial =
        all_every (λ x. every (is_live (swept C)) (edges_of (swept C) x)) (live_vertices (swept C))
        (each_live _ (λ x h. all_every (is_live (swept C)) (edges_of (swept C) x) h));
    all_vertices = live_row keys es f.few ∙ sym (vertices_row keys es f.few);
    all_edges =
        all_of (λ x. live_edges_of (swept C) x ≡ edges_of (swept C) x) (live_vertices (swept C))
        (each_live _ (λ x h. keep_all (is_live (swept C)) (edges_of (swept C) x) h));
    all_added =
        gather_same (λ x. keep (is_added (swept C)) (edges_of (swept C) x)) (edges_of (swept C)) (live_vertices (swept C))
        (each_live _ (λ x h. keep_all (is_added (swept C)) (edges_of (swept C) x)
        (all_each (λ e. is_live (swept C) e ≡ true) (λ e. is_added (swept C) e ≡ true) (live_added (swept C)) (edges_of (swept C) x) h)));
    vertices_handed = ((handed_out keys es).0, f.few);
    edges_handed = ((handed_out keys es).1 ∙ many, edges_few asks C s);
    vertex_numbers = vertices_row keys es f.few;
    edge_numbers = ap (gather (edges_of (swept C))) (vertices_row keys es f.few) ∙ numbers_row f ∙ ap (row 1) many;
    new_key = number_key;
    new_edges = edges_row f;
    new_edge_keys = λ i r. ap (map (edge_key (swept C))) (edges_row f i r) ∙ edge_keys_row f i r
        ∙ map-map (λ d. d.key) (swept_edge C (old C i)) (live_edges_of C (old C i));
    edge_source = λ e low high.
        let r = source_row f e low (omega (arith, many)) in
        record { source = source_in f e low (omega (arith, many)); low = r.0; high = r.1 };
    edge_live = λ e low high. edge_lives f e low (omega (arith, many));
    edge_aim = λ e low high. leads f e low (omega (arith, many));
  }

pub kept : SweepKeeps
kept = all_kept
