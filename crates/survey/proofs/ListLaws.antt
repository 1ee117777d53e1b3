-- What the walk over the live vertices finds from a vertex on, by its list and by what it finds from the next on.
use Rattle.std.proofs.Common.{Option, Some, None}
use Prim.Native.Nat.{ℕ, ◌+◌, ◌*◌, ◌-◌, ◌≤◌}
use mathlib.Core.Bool.{Bool, true, false}
use mathlib.Core.List.{List, [], ◌∷◌, ◌++◌}
use mathlib.Core.Path.{◌≡◌, refl, sym, ◌∙◌, ap}
use native.Mathlib.Omega.{arith}
use borrow.Author.Rules.{rules}
use mir.Syntax.{w32}
use mir.Val.{Fits}
use lib.Dec.{leb}
use lib.ListN.{length, length-append}
use Rattle.catalogue.specs.Tests.{pick, every, keep}
use Rattle.catalogue.specs.Numbers.{tail, most_edges}
use Rattle.catalogue.specs.Catalogue.{Catalogue}
use Rattle.catalogue.specs.Live.{walk, next_vertex, unmarked, live_edges_of, gather}
use Rattle.catalogue.specs.Soundness.{Asks, edges_sound}
use Rattle.laws.proofs.Walks.{walk_spent, walk_end, walk_on}
use Rattle.survey.proofs.EdgeLaws.{at_most}
use Rattle.survey.proofs.WalkLaws.{told_some, told_none, falls}
use Rattle.survey.specs.Walks.{within, edges_at, lists_from}

module _ (live test : ℕ → Bool) (holds : ℕ → List ℕ) (n : ℕ) where
  abbrev sum : List ℕ → Bool
  sum l = within test holds n (keep live l)

  sum_none : leb n most_edges ≡ sum []
  unfolding every keep gather
  sum_none = ap (λ (k : ℕ). leb k most_edges) (let e : n ≡ n + 0 = omega arith in e)

  module _ (x : ℕ) (l : List ℕ) where
    sum_skip : live x ≡ false → sum l ≡ sum (x ∷ l)
    unfolding keep
    sum_skip e = rw e refl

    module _ (e : live x ≡ true) where
      sum_off : test x ≡ false → false ≡ sum (x ∷ l)
      unfolding keep every
      sum_off h = rw (e, h) refl

      sum_on : (k : ℕ) → test x ≡ true → k ≡ length (holds x) → within test holds (n + k) (keep live l) ≡ sum (x ∷ l)
      unfolding keep every gather
      sum_on k h q =
          let rest = gather holds (keep live l) in
          let f : n + k + length rest ≡ n + length (holds x ++ rest) = omega (arith, length-append (holds x) rest) in
          rw (e, h) (ap (λ (m : ℕ). pick (every test (keep live l)) (leb m most_edges) false) f)

module _ (asks : Asks) (C : Catalogue) (n left x : ℕ) where
  abbrev sum_of : List ℕ → Bool
  sum_of = sum (unmarked C) (edges_sound asks C) (live_edges_of C) n

  abbrev rest_at : ℕ → List ℕ
  rest_at y = walk (next_vertex C) tail (left - 1) y

  lists_over : (r : Bool) → r ≡ leb n 2047 → walk (next_vertex C) tail left x ≡ [] → r ≡ lists_from asks C n left x
  unfolding lists_from
  lists_over r e over = e ∙ sum_none (unmarked C) (edges_sound asks C) (live_edges_of C) n ∙ sym (ap sum_of over)

  pub lists_spent : (r : Bool) → r ≡ leb n 2047 → left ≡ 0 → r ≡ lists_from asks C n left x
  lists_spent r e q = lists_over r e (walk_spent (next_vertex C) tail left x q)

  pub lists_end : (r : Bool) → r ≡ leb n 2047 → x ≡ 1 → r ≡ lists_from asks C n left x
  lists_end r e q = lists_over r e (walk_end (next_vertex C) tail left x q)

  module _ (on : left ≡ 0 → ⊥) (short : x ≡ 1 → ⊥) (u : Bool) (e : u ≡ unmarked C x) (y : ℕ) (f : y ≡ next_vertex C x) where
    goes_on : sum_of (x ∷ rest_at y) ≡ sum_of (walk (next_vertex C) tail left x)
    goes_on = sym (ap sum_of (walk_on (next_vertex C) tail left x y on short f))

    pub lists_skip : (r : Bool) → u ≡ false → r ≡ lists_from asks C n (left - 1) y → r ≡ lists_from asks C n left x
    unfolding lists_from
    lists_skip r q k = k ∙ sum_skip (unmarked C) (edges_sound asks C) (live_edges_of C) n x (rest_at y) (sym e ∙ q) ∙ goes_on

    module _ (q : u ≡ true) (s : Option ℕ) (g : s ≡ edges_at asks C x) where
      pub lists_off : s ≡ None → false ≡ lists_from asks C n left x
      unfolding lists_from edges_at
      lists_off p =
          sum_off (unmarked C) (edges_sound asks C) (live_edges_of C) n x (rest_at y) (sym e ∙ q)
          (told_none (edges_sound asks C x) (length (live_edges_of C x)) (sym p ∙ g))
          ∙ goes_on

      pub lists_on : (live : ℕ) (r : Bool) → s ≡ Some live → r ≡ lists_from asks C (n + live) (left - 1) y → r ≡ lists_from asks C n left x
      unfolding lists_from edges_at
      lists_on live r p k =
          let told = told_some (edges_sound asks C x) (length (live_edges_of C x)) live (sym p ∙ g) in
          k
          ∙ sum_on (unmarked C) (edges_sound asks C) (live_edges_of C) n x (rest_at y) (sym e ∙ q) live told.0 told.1
          ∙ goes_on

-- what the next call asks of its numbers
module _ (n left : ℕ) (h : n + 2048 * left ≤ 524288) (on : left ≡ 0 → ⊥) where
  pub sum_less : n + 2048 * (left - 1) ≤ 524288
  sum_less = omega arith

  module _ (asks : Asks) (C : Catalogue) (x live : ℕ) (r : Option ℕ) (e : r ≡ edges_at asks C x) (q : r ≡ Some live) where
    pub sum_more : n + live + 2048 * (left - 1) ≤ 524288
    sum_more = omega (arith, at_most asks C x live r e q)

    pub sum_fits : Fits w32 (n + live)
    sum_fits = omega (arith, at_most asks C x live r e q)

pub ruleset lists_cases = (
  lists_spent,
  lists_end,
  lists_skip,
  lists_off,
  lists_on,
  falls,
  sum_less,
  sum_more,
  sum_fits,
  rules,
)
