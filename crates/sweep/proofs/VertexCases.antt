-- The new vertices and their numbers, by the cases of the vertex walk.
use Prim.Native.Nat.{ℕ, ◌+◌, ◌-◌}
use mathlib.Core.Bool.{Bool, true, false}
use mathlib.Core.List.{List}
use mathlib.Core.Path.{◌≡◌, ap, ◌∙◌}
use borrow.Author.Rules.{rules}
use lib.IntN.{ℤ}
use lib.ListN.{set}
use Rattle.catalogue.specs.Lent.{Memory}
use Rattle.listing.specs.Walks.{kept_from}
use Rattle.sweep.specs.Built.{committed, vertex_write, with_vertices, numbered}
use Rattle.sweep.proofs.Kept.{none_built, end_built, left_built, kept_built, left_room, room_here, kept_room}

module _ (next : ℕ → ℕ) (end : ℕ) (test : ℕ → Bool) (fuel x : ℕ) where
  abbrev kept : ℕ → ℕ → List ℕ
  kept = kept_from next end test

  module _ (keys : ℕ → ℤ) (n : ℕ) (m : Memory) where
    abbrev built : List ℕ → Memory
    built l = with_vertices keys l n m

    pub vertices_none : fuel ≡ 0 → m ≡ built (kept fuel x)
    unfolding with_vertices
    vertices_none = none_built next end test fuel x built

    pub vertices_end : x ≡ end → m ≡ built (kept fuel x)
    unfolding with_vertices
    vertices_end = end_built next end test fuel x built

  module _ (n : ℕ) (numbers : List ℕ) where
    abbrev put : List ℕ → List ℕ
    put l = numbered l n numbers

    pub numbers_none : fuel ≡ 0 → numbers ≡ put (kept fuel x)
    unfolding numbered
    numbers_none = none_built next end test fuel x put

    pub numbers_end : x ≡ end → numbers ≡ put (kept fuel x)
    unfolding numbered
    numbers_end = end_built next end test fuel x put

  module _ (y : ℕ) (r : Bool) (some : fuel ≡ 0 → ⊥) (e : x ≡ end → ⊥) (q : r ≡ test x) (on : y ≡ next x) where
    abbrev rest : List ℕ
    rest = kept (fuel - 1) y

    module _ (keys : ℕ → ℤ) (n : ℕ) (m m' : Memory) where
      pub vertices_left : r ≡ false → m' ≡ built keys n m rest → m' ≡ built keys n m (kept fuel x)
      vertices_left h later = later ∙ left_built next end test fuel x y r some e q on (built keys n m) h

      pub vertices_kept : (m'' : Memory) → r ≡ true → m' ≡ committed m (vertex_write n (keys x)) → m'' ≡ built keys (n + 1) m' rest
          → m'' ≡ built keys n m (kept fuel x)
      unfolding with_vertices
      vertices_kept m'' h made later =
          later
          ∙ ap (with_vertices keys rest (n + 1)) made
          ∙ kept_built next end test fuel x y r some e q on (built keys n m) h

    module _ (n : ℕ) (numbers last : List ℕ) where
      pub numbers_left : r ≡ false → last ≡ put n numbers rest → last ≡ put n numbers (kept fuel x)
      numbers_left h later = later ∙ left_built next end test fuel x y r some e q on (put n numbers) h

      pub numbers_kept : (mid : List ℕ) → r ≡ true → mid ≡ set numbers x (2 + n) → last ≡ put (n + 1) mid rest → last ≡ put n numbers (kept fuel x)
      unfolding numbered
      numbers_kept mid h here later = later ∙ ap (numbered rest (n + 1)) here ∙ kept_built next end test fuel x y r some e q on (put n numbers) h

pub ruleset vertex_cases = (vertices_none, vertices_end, numbers_none, numbers_end, vertices_left, vertices_kept, numbers_left, numbers_kept, left_room, room_here, kept_room, rules)
