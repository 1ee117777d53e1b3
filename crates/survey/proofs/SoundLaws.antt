-- The whole survey by what its walks found.
use Rattle.std.proofs.Common.{Result, Ok, Err, List}
use Prim.Native.Nat.{ℕ, ◌+◌}
use mathlib.Core.Bool.{Bool, true, false}
use mathlib.Core.Path.{◌≡◌, refl, sym, ◌∙◌, ap}
use native.Mathlib.Omega.{arith}
use borrow.Author.Rules.{rules}
use lib.Dec.{leb}
use lib.ListN.{length}
use Rattle.catalogue.specs.Tests.{pick, every}
use Rattle.catalogue.specs.Numbers.{head, tail, vertex_pool, most_edges}
use Rattle.catalogue.specs.Catalogue.{Catalogue}
use Rattle.catalogue.specs.Live.{walk, next_vertex, vertices, unmarked, live_vertices, live_edges_of, live_edges, gather}
use Rattle.catalogue.specs.Soundness.{Asks, vertex_sound, edges_sound, sound}
use Rattle.laws.proofs.Gathers.{live_many}
use Rattle.survey.proofs.MetLaws.{ready}
use Rattle.survey.proofs.WalkLaws.{told_ok, told_err}
use Rattle.survey.specs.Walks.{met_of, found, walk_from, lists_from}

-- the four tests of the survey, in their order
abbrev whole : Bool → Bool → Bool → Bool → Bool
whole free first others lists = pick free (pick (pick first others false) lists false) false

module _ (asks : Asks) (C : Catalogue) where
  sound_is : whole (unmarked C head) (vertex_sound C head) (every (vertex_sound C) (vertices C)) (lists_from asks C 0 256 (next_vertex C head)) ≡ sound asks C
  unfolding sound every lists_from
  sound_is =
      let n = length (gather (live_edges_of C) (live_vertices C)) in
      ap (λ (k : ℕ). whole (unmarked C head) (vertex_sound C head) (every (vertex_sound C) (vertices C)) (pick (every (edges_sound asks C) (live_vertices C)) (leb k most_edges) false))
      (let e : 0 + n ≡ length (live_edges C) = omega (arith, live_many (live_edges_of C) (live_vertices C)) in e)

  by_parts : (free first others lists : Bool) → free ≡ unmarked C head → first ≡ vertex_sound C head → others ≡ every (vertex_sound C) (vertices C)
      → lists ≡ lists_from asks C 0 256 (next_vertex C head) → whole free first others lists ≡ sound asks C
  by_parts free first others lists e f g h = rw (e, f, g, h) sound_is

  module _ (u : Bool) (e : u ≡ unmarked C 0) where
    pub sound_marked : u ≡ false → false ≡ sound asks C
    sound_marked q = by_parts false _ _ _ (sym q ∙ e) refl refl refl

    module _ (q : u ≡ true) (v : Bool) (f : v ≡ vertex_sound C 0) where
      pub sound_head : v ≡ false → false ≡ sound asks C
      sound_head p = by_parts true false _ _ (sym q ∙ e) (sym p ∙ f) refl refl

      module _ (p : v ≡ true) (y : ℕ) (g : y ≡ next_vertex C 0) (w : Result (List ℕ) (List ℕ)) (h : w ≡ walk_from C 256 y) where
        walked_all : w ≡ found (vertex_sound C) (vertices C)
        unfolding walk_from
        walked_all = h ∙ ap (λ (z : ℕ). found (vertex_sound C) (walk (next_vertex C) tail vertex_pool z)) g

        pub sound_walk : (met : List ℕ) → w ≡ Err met → false ≡ sound asks C
        sound_walk met s =
            by_parts true true false _ (sym q ∙ e) (sym p ∙ f)
            (sym (told_err (every (vertex_sound C) (vertices C)) (met_of (vertex_sound C) (vertices C)) met (sym s ∙ walked_all)).0) refl

        pub sound_lists : (met : List ℕ) (r : Bool) → w ≡ Ok met → r ≡ lists_from asks C 0 256 y → r ≡ sound asks C
        sound_lists met r s k =
            by_parts true true true r (sym q ∙ e) (sym p ∙ f)
            (sym (told_ok (every (vertex_sound C) (vertices C)) (met_of (vertex_sound C) (vertices C)) met (sym s ∙ walked_all)).0) (k ∙ ap (lists_from asks C 0 256) g)

pub ruleset sound_cases = (sound_marked, sound_head, sound_walk, sound_lists, ready, rules)
