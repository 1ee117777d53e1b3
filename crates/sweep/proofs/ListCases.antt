-- The new edges of all sources, by the cases of the vertex walk.
use Prim.Native.Nat.{ℕ, ◌+◌, ◌-◌, ◌≤◌}
use mathlib.Core.Bool.{Bool, true, false}
use mathlib.Core.List.{List}
use mathlib.Core.Path.{◌≡◌, ap, ◌∙◌}
use native.Mathlib.Omega.{arith}
use borrow.Author.Rules.{rules}
use lib.IntN.{ℤ}
use lib.ListN.{length, length-append}
use Rattle.catalogue.specs.Lent.{Memory}
use Rattle.catalogue.specs.Live.{gather}
use Rattle.listing.specs.Walks.{kept_from}
use Rattle.listing.proofs.Kept.{gather_on, gather_off}
use Rattle.sweep.specs.Built.{with_edges, with_lists}
use Rattle.sweep.proofs.Kept.{none_built, end_built, left_built, kept_built}

module _ (next : ℕ → ℕ) (end : ℕ) (test : ℕ → Bool) (fuel x : ℕ) where
  abbrev kept : ℕ → ℕ → List ℕ
  kept = kept_from next end test

  module _ (keys : ℕ → ℤ) (targets number : ℕ → ℕ) (edges : ℕ → List ℕ) (n : ℕ) (m : Memory) where
    abbrev built : List ℕ → Memory
    built l = with_lists keys targets number edges l n m

    pub lists_none : fuel ≡ 0 → m ≡ built (kept fuel x)
    unfolding with_lists
    lists_none = none_built next end test fuel x built

    pub lists_end : x ≡ end → m ≡ built (kept fuel x)
    unfolding with_lists
    lists_end = end_built next end test fuel x built

  module _ (y : ℕ) (r : Bool) (some : fuel ≡ 0 → ⊥) (e : x ≡ end → ⊥) (q : r ≡ test x) (on : y ≡ next x) where
    abbrev rest : List ℕ
    rest = kept (fuel - 1) y

    module _ (keys : ℕ → ℤ) (targets number : ℕ → ℕ) (edges : ℕ → List ℕ) (n : ℕ) (m m' : Memory) where
      pub lists_left : r ≡ false → m' ≡ built keys targets number edges n m rest → m' ≡ built keys targets number edges n m (kept fuel x)
      lists_left h later = later ∙ left_built next end test fuel x y r some e q on (built keys targets number edges n m) h

      pub lists_kept : (m'' : Memory) (last : ℕ) → r ≡ true → m' ≡ with_edges keys targets (number x) (edges x) n 0 m → last ≡ n + length (edges x)
          → m'' ≡ built keys targets number edges last m' rest → m'' ≡ built keys targets number edges n m (kept fuel x)
      unfolding with_lists
      lists_kept m'' last h made counted later =
          later
          ∙ ap (λ k. with_lists keys targets number edges rest k m') counted
          ∙ ap (with_lists keys targets number edges rest (n + length (edges x))) made
          ∙ kept_built next end test fuel x y r some e q on (built keys targets number edges n m) h

    -- room for the edges of a vertex, and for those of the rest
    module _ (edges : ℕ → List ℕ) (n : ℕ) (room : n + length (gather edges (kept fuel x)) ≤ 2047) where
      pub lists_left_room : r ≡ false → n + length (gather edges rest) ≤ 2047
      lists_left_room h = omega (arith, ap length (gather_off next end test edges fuel x y r some e q on h))

      module _ (h : r ≡ true) where
        both : length (gather edges (kept fuel x)) ≡ length (edges x) + length (gather edges rest)
        both = ap length (gather_on next end test edges fuel x y r some e q on h) ∙ length-append (edges x) (gather edges rest)

        pub list_room : (here : List ℕ) → here ≡ edges x → n + length here ≤ 2047
        list_room here these = omega (arith, both, ap length these)

        pub lists_kept_room : (last : ℕ) → last ≡ n + length (edges x) → last + length (gather edges rest) ≤ 2047
        lists_kept_room last counted = omega (arith, both)

pub ruleset list_cases = (lists_none, lists_end, lists_left, lists_kept, lists_left_room, list_room, lists_kept_room, rules)
