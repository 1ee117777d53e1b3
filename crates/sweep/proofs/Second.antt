-- What the two walks make of a sound catalogue is the memory of its second catalogue, and there is room for it.
use Prim.Native.Nat.{ℕ, ◌+◌, ◌≤◌}
use mathlib.Core.Bool.{true, false}
use mathlib.Core.List.{List, [], map}
use mathlib.Core.Path.{◌≡◌, refl, sym, ap, ◌∙◌}
use native.Mathlib.Omega.{arith}
use borrow.Author.Rules.{rules}
use lib.IntN.{ℤ}
use lib.ListN.{length, replicate}
use Rattle.catalogue.specs.Catalogue.{Catalogue, vertex_key, edge_key, edge_target, at_target, fresh}
use Rattle.catalogue.specs.Live.{next_vertex, unmarked, live_vertices, live_edges_of, gather}
use Rattle.catalogue.specs.Soundness.{sweep, edges_sound, target_sound, sound}
use Rattle.catalogue.specs.Sweep.{renumbered, swept_edge, swept_edges, swept, held}
use Rattle.catalogue.specs.Lent.{Memory, memory_of, catalogue_in, lay}
use Rattle.std.proofs.Common.{Option, Some, None}
use Rattle.laws.proofs.Members.{All, all_each, all_join, all_of, map_same}
use Rattle.laws.proofs.Gathers.{gather_same, live_many, live_made}
use Rattle.memory.specs.Memories.{Hold}
use Rattle.memory.proofs.Agrees.{lay_agree}
use Rattle.survey.specs.Walks.{linked}
use Rattle.listing.specs.Walks.{kept_from, unmarked_from, live_of}
use Rattle.resting.proofs.Sound.{lists_sound, edges_few}
use Rattle.resting.proofs.Vertices.{live_distinct, live_within, live_few}
use Rattle.resting.proofs.Edges.{Lives, live_target, targets_live}
use Rattle.sweep.specs.Built.{with_vertices, numbered, number_of, target_number, lists_built}
use Rattle.sweep.proofs.NewNumbers.{counted, placed}
use Rattle.sweep.proofs.VertexLists.{fresh_agrees, vertices_laid}
use Rattle.sweep.proofs.EdgeLists.{made, all_made, lists_laid}
use Rattle.sweep.proofs.NodeLaws.{laid}

module _ (C : Catalogue) (s : sound sweep C ≡ true) where
  abbrev live : List ℕ
  live = live_vertices C

  abbrev table : List ℕ
  table = numbered live 0 (replicate 256 0)

  abbrev number : ℕ → ℕ
  number = number_of table

  renumbers : All (λ y. number y ≡ renumbered C y) live
  renumbers = placed 256 live 0 (replicate 256 0) (live_distinct sweep C s) (live_within sweep C s) refl

  target_same : (e : ℕ) (l : Option ℕ) → at_target l false (unmarked C) ≡ true → at_target l false (target_sound C e) ≡ true
      → at_target l 0 number ≡ at_target l 0 (renumbered C)
  target_same e (Some y) u t = all_of (λ z. number z ≡ renumbered C z) live renumbers y (live_target C e y u t)
  target_same e None u t = refl

  list_same : (x : ℕ) → (edges_sound sweep C x ≡ true) × (number x ≡ renumbered C x)
      → map (made (edge_key C) (target_number C table) (number x)) (live_of C x) ≡ map (swept_edge C x) (live_edges_of C x)
  unfolding kept_from
  list_same x h =
      map_same (made (edge_key C) (target_number C table) (number x)) (swept_edge C x) (live_edges_of C x)
      (all_each (Lives C) (λ e. made (edge_key C) (target_number C table) (number x) e ≡ swept_edge C x e)
      (λ e v i. record { source = h.1 i; target = target_same e (edge_target C e) v.0 v.1 i; key = edge_key C e })
      (live_edges_of C x) (targets_live sweep C x h.0))

  edges_same : all_made (edge_key C) (target_number C table) number (live_of C) live ≡ swept_edges C
  edges_same =
      gather_same _ (λ x. map (swept_edge C x) (live_edges_of C x)) live
      (all_each _ _ list_same live (all_join (λ x. edges_sound sweep C x ≡ true) (λ x. number x ≡ renumbered C x) live (lists_sound sweep C s) renumbers))
      ∙ sym (live_made (swept_edge C) (live_edges_of C) live)

  built : lists_built C table live 0 (with_vertices (vertex_key C) live 0 (lay fresh)) ≡ lay (swept C)
  built =
      let ks = map (vertex_key C) live in
      ap (λ m. lists_built C table live 0 (with_vertices (vertex_key C) live 0 m)) (lay_agree fresh_agrees)
      ∙ ap (lists_built C table live 0) (vertices_laid (vertex_key C) live [] 0 refl)
      ∙ lists_laid (edge_key C) (target_number C table) ks number (live_of C) live 2 [] 0 (omega arith)
      (counted 256 live 0 (replicate 256 0) (live_distinct sweep C s) (live_within sweep C s) refl) tt refl
      ∙ ap (λ es. lay (held ks es)) edges_same

-- the walks as the code has them: from the first vertex that it read
module _ (keys : List ℤ) (words : List ℕ) (x : ℕ) (s : sound sweep (catalogue_in keys words) ≡ true) (e : x ≡ next_vertex (linked words) 0) where
  abbrev first_catalogue : Catalogue
  first_catalogue = catalogue_in keys words

  walk_is : unmarked_from (linked words) 256 x ≡ live_vertices first_catalogue
  unfolding kept_from
  walk_is = ap (λ y. unmarked_from (linked words) 256 y) e

  pub vertices_room : 0 + length (unmarked_from (linked words) 256 x) ≤ 254
  vertices_room = omega (arith, ap length walk_is, live_few sweep first_catalogue s)

  pub edges_room : 0 + length (gather (live_of (linked words)) (unmarked_from (linked words) 256 x)) ≤ 2047
  unfolding kept_from
  edges_room = omega (arith, ap (λ l. length (gather (live_of (linked words)) l)) walk_is, live_many (live_edges_of first_catalogue) (live_vertices first_catalogue), edges_few sweep first_catalogue s)

  pub second_laid : (k₀ : List ℤ) (w₀ : List ℕ) (m m' : Memory) (numbers : List ℕ) → Hold k₀ w₀ fresh
      → m ≡ with_vertices (vertex_key first_catalogue) (unmarked_from (linked words) 256 x) 0 (memory_of k₀ w₀)
      → numbers ≡ numbered (unmarked_from (linked words) 256 x) 0 (replicate 256 0)
      → m' ≡ lists_built first_catalogue numbers (unmarked_from (linked words) 256 x) 0 m
      → m' ≡ lay (swept first_catalogue)
  second_laid k₀ w₀ m m' numbers h v n l =
      let C = first_catalogue in
      l
      ∙ ap (λ k. lists_built C k (unmarked_from (linked words) 256 x) 0 m) n
      ∙ ap (lists_built C (numbered (unmarked_from (linked words) 256 x) 0 (replicate 256 0)) (unmarked_from (linked words) 256 x) 0)
      (v ∙ ap (with_vertices (vertex_key C) (unmarked_from (linked words) 256 x) 0) (laid k₀ w₀ fresh h))
      ∙ ap (λ k. lists_built C (numbered k 0 (replicate 256 0)) k 0 (with_vertices (vertex_key C) k 0 (lay fresh))) walk_is
      ∙ built C s

pub ruleset second_cases = (vertices_room, edges_room, second_laid, rules)
