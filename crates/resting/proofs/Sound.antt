-- What soundness implies for each vertex and each edge, as the order of keys and as members of lists.
use Prim.Native.Nat.{ℕ, ◌≤◌}
use mathlib.Core.Bool.{Bool, true, false}
use mathlib.Core.List.{◌∷◌}
use mathlib.Core.Path.{◌≡◌}
use lib.IntN.{ℤ}
use lib.ListN.{length}
use lib.Dec.{eqb, leb}
use lib.Signed.{lt_z, ◌<ℤ◌}
use borrow.Author.Tests.{leb-true}
use Rattle.catalogue.specs.Tests.{pick, every}
use Rattle.catalogue.specs.Numbers.{head, tail, edge_tail, most_edges, marked}
use Rattle.catalogue.specs.Catalogue.{Catalogue, at_link, at_mark}
use Rattle.catalogue.specs.Live.{vertices, unmarked, live_vertices, live_edges}
use Rattle.catalogue.specs.Soundness.{Asks, vertex_sound, edges_sound, sound}
use Rattle.std.proofs.Common.{Option, Some, None}
use Rattle.catalogue.specs.declared.links.Link.{Link}
use Rattle.laws.proofs.Picks.{clash, both_true}
use Rattle.laws.proofs.Members.{All, every_all}
use Rattle.laws.proofs.Keys.{rises}

-- a test of a link that came out true
pub link_rises : (low : ℤ) (key : ℕ → ℤ) (l : Option (Link ℕ)) → at_link l false (λ next tag. lt_z low (key next)) ≡ true → low <ℤ key (at_link l tail (λ next tag. next))
link_rises low key (Some l) e = rises low (key l.next) e
link_rises low key None e = clash (cc)

pub edge_rises : (low : ℤ) (key : ℕ → ℤ) (fits : ℕ → Bool) (t : Bool) (l : Option (Link ℕ))
    → at_link l false (λ next tag. pick (fits tag) (pick (lt_z low (key next)) t false) false) ≡ true
    → (low <ℤ key (at_link l edge_tail (λ next tag. next))) × (t ≡ true)
edge_rises low key fits t (Some l) e =
    let r = both_true (lt_z low (key l.next)) t (both_true (fits l.tag) _ e).1 in
    (rises low (key l.next) r.0, r.1)
edge_rises low key fits t None e = clash (cc)

pub whole : (t : Bool) (l : Option (Link ℕ)) → at_link l false (λ next tag. t) ≡ true → t ≡ true
whole t (Some l) e = e
whole t None e = clash (cc)

pub met : (m : Bool) (l : Option (Link ℕ)) → at_mark l false false true ≡ true → at_mark l false true m ≡ true → m ≡ true
met m (Some l) = by (eqb l.tag marked)
  where
    by : (t : Bool) → pick t false true ≡ true → pick t true m ≡ true → m ≡ true
    by true u e = clash (cc)
    by false u e = e
met m None = λ u e. clash (cc)

module _ (asks : Asks) (C : Catalogue) (s : sound asks C ≡ true) where
  abbrev lists : Bool
  lists = pick (every (edges_sound asks C) (live_vertices C)) (leb (length (live_edges C)) most_edges) false

  vertices_pass : (every (vertex_sound C) (head ∷ vertices C) ≡ true) × (lists ≡ true)
  unfolding sound
  vertices_pass = both_true (every (vertex_sound C) (head ∷ vertices C)) lists (both_true (unmarked C head) _ s).1

  lists_pass : (every (edges_sound asks C) (live_vertices C) ≡ true) × (leb (length (live_edges C)) most_edges ≡ true)
  lists_pass = both_true (every (edges_sound asks C) (live_vertices C)) _ vertices_pass.1

  pub edges_few : length (live_edges C) ≤ most_edges
  edges_few = leb-true (length (live_edges C)) most_edges lists_pass.1

  pub vertices_sound : All (λ x. vertex_sound C x ≡ true) (head ∷ vertices C)
  vertices_sound = every_all (vertex_sound C) (head ∷ vertices C) vertices_pass.0

  pub lists_sound : All (λ x. edges_sound asks C x ≡ true) (live_vertices C)
  lists_sound = every_all (edges_sound asks C) (live_vertices C) lists_pass.0
