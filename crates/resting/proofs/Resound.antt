-- A catalogue that holds keys and edges is sound, where no key is below the least.
use Prim.Native.Nat.{ℕ, zero, suc, ◌+◌, ◌-◌, ◌<◌, ◌≤◌}
use mathlib.Core.Bool.{Bool, true, false}
use mathlib.Core.List.{List, ◌∷◌, map}
use mathlib.Core.Path.{◌≡◌, refl, ap, subst, ◌∙◌}
use native.Mathlib.Omega.{arith}
use mir.Syntax.{w32}
use mir.Val.{SFits}
use lib.IntN.{ℤ, pos, negsuc}
use lib.ListN.{length, get_or}
use lib.Dec.{ltb, le→leb}
use lib.Signed.{lt_z, ◌<ℤ◌, ◌≤ℤ◌, le_z_yes, lt_z_yes}
use borrow.Author.Tests.{le-leb}
use Rattle.catalogue.specs.Tests.{pick, every}
use Rattle.catalogue.specs.Numbers.{head, tail, edge_tail, least, greatest, most_edges, added, some_link}
use Rattle.catalogue.specs.Catalogue.{Catalogue, vertex_key, vertex_key_in, vertex_link, edge_key, edge_key_in, edge_link, edge_target, at_link, at_target, at_mark}
use Rattle.catalogue.specs.Live.{next_vertex, next_edge, first_edge, vertices, live_vertices, live_edges, gather}
use Rattle.catalogue.specs.Soundness.{Asks, listing, sweep, tag_fits, vertex_sound, edge_sound, edges_sound, target_sound, sound}
use Rattle.catalogue.specs.Sweep.{SweptEdge, held}
use Rattle.std.proofs.Common.{Option, Some, None}
use Rattle.catalogue.specs.declared.links.Link.{Link}
use Rattle.laws.proofs.Picks.{clash}
use Rattle.laws.proofs.Rules.{eq_z_refl}
use Rattle.laws.proofs.Members.{All, all_each, all_join, all_every, all_at, all_map, all_parts}
use Rattle.laws.proofs.Keys.{risen}
use Rattle.laws.proofs.Walks.{Climbs, climbs}
use Rattle.resting.specs.Kept.{row, In, start, size, stop, Leads}
use Rattle.resting.proofs.Rows.{all_row, member_row}
use Rattle.resting.proofs.SweptReads.{new_keys, head_at, head_key, vertex_at}
use Rattle.resting.proofs.Shape.{vertices_end, vertices_row, keys_row, each_vertex}
use Rattle.resting.proofs.Shares.{Aimed, Fits, together, link_row, first_link_row, edges_end, edges_row, edge_keys_row}
use Rattle.resting.proofs.Targets.{leads_row}
use Rattle.resting.proofs.Lines.{edges_many}

-- a key of 32 bits is not below the least
pub bits_least : (k : ℤ) → SFits w32 k → least ≤ℤ k
bits_least (pos n) h = le_z_yes tt
bits_least (negsuc n) h = le_z_yes (le→leb n 2147483647 (omega (arith, h.sfits)))

-- the tests of soundness, from what was read
link_passes : (low : ℤ) (key : ℕ → ℤ) (l : Option (Link ℕ)) → at_link l false (λ next tag. true) ≡ true → low <ℤ key (at_link l tail (λ next tag. next))
    → at_link l false (λ next tag. lt_z low (key next)) ≡ true
link_passes low key (Some l) e h = risen low (key l.next) h
link_passes low key None e h = clash (cc)

edge_passes : (low : ℤ) (key : ℕ → ℤ) (fits : ℕ → Bool) (t : Bool) (l : Option (Link ℕ)) (next tag : ℕ) → l ≡ some_link next tag → fits tag ≡ true
    → low <ℤ key (at_link l edge_tail (λ next tag. next)) → t ≡ true
    → at_link l false (λ next tag. pick (fits tag) (pick (lt_z low (key next)) t false) false) ≡ true
edge_passes low key fits t l next tag e f h g = rw (e, f, risen low (key next) (rw e at h), g) refl

any_fits : (asks : Asks) → tag_fits asks added ≡ true
any_fits listing = refl
any_fits sweep = refl

module _ {keys : List ℤ} {es : List SweptEdge} {share : ℕ → List SweptEdge} (f : Fits keys es share) where
  abbrev D : Catalogue
  D = held keys es

  abbrev numbers : List ℕ
  numbers = row 2 (length keys)

  -- Vertices.
  abbrev Whole : ℕ → Type 0
  Whole i = at_link (vertex_link D i) false (λ next tag. true) ≡ true

  abbrev Rises : ℕ → Type 0
  Rises i = vertex_key D i <ℤ vertex_key D (next_vertex D i)

  whole_links : All Whole (head ∷ numbers)
  whole_links = (
    ap (λ l. at_link l false (λ next tag. true)) (head_at keys es f.few),
    all_row Whole 2 (length keys) (λ i a b. ap (λ l. at_link l false (λ next tag. true)) (vertex_at keys es f.few i a b)),
  )

  module _ (over : All (λ k. least <ℤ k) keys) where
    climbing : Climbs (next_vertex D) tail (vertex_key D) (head ∷ numbers)
    unfolding vertex_key_in
    climbing =
        climbs (next_vertex D) tail (vertex_key D) head (head ∷ numbers) (refl, (λ e. omega arith), vertices_end keys es f.few)
        (rw (head_key keys es, keys_row keys es f.few) (over, f.rising))
        (rw (head_key keys es, keys_row keys es f.few) (lt_z_yes tt, f.under))

    vertices_hold : every (vertex_sound D) (head ∷ vertices D) ≡ true
    vertices_hold =
        rw (vertices_row keys es f.few)
        (all_every (vertex_sound D) (head ∷ numbers)
        (all_each (λ i. Whole i × Rises i) (λ i. vertex_sound D i ≡ true)
        (λ i g. link_passes (vertex_key D i) (vertex_key D) (vertex_link D i) g.0 g.1) (head ∷ numbers)
        (all_join Whole Rises (head ∷ numbers) whole_links climbing)))

  -- Edges.
  under_edge : (d : SweptEdge) → Aimed keys d → d.key <ℤ greatest
  under_edge d a =
      rw (← a.keyed) (by d.target a.low a.high)
    where
      by : (i : ℕ) → 2 ≤ i → i < 2 + length keys → get_or (new_keys keys) i (pos 0) <ℤ greatest
      by zero a b = absurd (omega arith)
      by (suc zero) a b = absurd (omega arith)
      by (suc (suc j)) a b = all_at (λ k. k <ℤ greatest) (pos 0) keys j f.under (omega arith)

  module _ (i : ℕ) (r : In keys i) where
    abbrev edges : List ℕ
    edges = row (start share i) (size share i)

    abbrev There : ℕ → Type 0
    There e = (start share i ≤ e) × (e < stop share i)

    abbrev Climb : ℕ → Type 0
    Climb e = edge_key D e <ℤ edge_key D (next_edge D e)

    under : All (λ k. k <ℤ greatest) (map (λ d. d.key) (share i))
    under =
        all_map (λ k. k <ℤ greatest) (λ d. d.key) (share i) (all_each (Aimed keys) (λ d. d.key <ℤ greatest) under_edge (share i)
        (all_parts (Aimed keys) (share i) _ (all_parts (Aimed keys) (gather share (row 2 (i - 2))) _ (subst (All (Aimed keys)) (together f i r).parts f.aimed)).1).0)

    edges_climb : Climbs (next_edge D) edge_tail (edge_key D) edges
    unfolding edge_key_in
    edges_climb =
        climbs (next_edge D) edge_tail (edge_key D) (first_edge D i) edges (edges_end f i r)
        (rw (edge_keys_row f i r) (f.climbing i r)) (rw (edge_keys_row f i r) under)

    target_holds : (e : ℕ) → Leads keys es e → at_target (edge_target D e) false (target_sound D e) ≡ true
    target_holds e d =
        ap (λ l. at_target l false (target_sound D e)) d.read
        ∙ rw (d.keyed, eq_z_refl (edge_key D e), vertex_at keys es f.few d.to d.low d.high, vertices_row keys es f.few)
        (member_row d.to 2 (length keys) d.low d.high)

    module _ (asked : Asks) where
      edge_holds : (e : ℕ) → start share i ≤ e → e < stop share i → Climb e → edge_sound asked D e ≡ true
      edge_holds e a b up =
          edge_passes (edge_key D e) (edge_key D) (tag_fits asked) (at_target (edge_target D e) false (target_sound D e)) (edge_link D e)
          (pick (ltb (suc e) (stop share i)) (suc e) edge_tail) added (link_row f i r e a b) (any_fits asked) up
          (target_holds e (leads_row f i r e a b))

      list_holds : edges_sound asked D i ≡ true
      list_holds =
          rw (edges_row f i r, first_link_row f i r)
          (all_every (edge_sound asked D) edges
          (all_each (λ e. There e × Climb e) (λ e. edge_sound asked D e ≡ true) (λ e g. edge_holds e g.0.0 g.0.1 g.1) edges
          (all_join There Climb edges (all_row There (start share i) (size share i) (λ e a b. (a, b))) edges_climb)))

  pub held_sound : All (λ k. least <ℤ k) keys → (asked : Asks) → sound asked D ≡ true
  unfolding sound
  held_sound over asked =
      rw (
        ap (λ l. at_mark l false false true) (head_at keys es f.few),
        vertices_hold over,
        all_every (edges_sound asked D) (live_vertices D) (each_vertex keys es f.few (λ i. edges_sound asked D i ≡ true) (λ i r. list_holds i r asked)),
      ) (le-leb (length (live_edges D)) most_edges (omega (arith, edges_many f, f.edges_few)))
