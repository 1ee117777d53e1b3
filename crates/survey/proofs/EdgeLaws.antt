-- What the walk of an edge list counts from an edge on, by the edge and by what it counts from the next on.
use Rattle.std.proofs.Common.{Option, Some, None}
use Prim.Native.Nat.{ℕ, ◌+◌, ◌-◌, ◌≤◌}
use mathlib.Core.Bool.{Bool, true, false}
use mathlib.Core.List.{List, [], ◌∷◌}
use mathlib.Core.Path.{◌≡◌, refl, sym, ◌∙◌, ap, subst}
use native.Mathlib.Omega.{arith}
use native.Mathlib.Nat.{le_trans}
use borrow.Author.Rules.{rules}
use lib.ListN.{length}
use Rattle.catalogue.specs.Tests.{pick, every, keep}
use Rattle.catalogue.specs.Numbers.{edge_tail, edge_pool}
use Rattle.catalogue.specs.Catalogue.{Catalogue, first_link, at_link}
use Rattle.catalogue.specs.Live.{walk, first_edge, next_edge, edges_of, is_live}
use Rattle.catalogue.specs.Soundness.{Asks, edge_sound, edges_sound}
use Rattle.std.proofs.Common.{Option, Some, None}
use Rattle.catalogue.specs.declared.links.Link.{Link}
use Rattle.laws.proofs.Picks.{pick_both}
use Rattle.laws.proofs.Members.{keep_short}
use Rattle.laws.proofs.Walks.{walk_spent, walk_end, walk_on, walk_bounded}
use Rattle.survey.proofs.Pools.{edge_on, first_to}
use Rattle.survey.proofs.WalkLaws.{falls}
use Rattle.survey.specs.Walks.{counted, edges_from, edges_at}

module _ (test live : ℕ → Bool) (n : ℕ) where
  counted_none : Some n ≡ counted test live n []
  unfolding every keep
  counted_none = ap Some (let e : n ≡ n + 0 = omega arith in e)

  module _ (x : ℕ) (l : List ℕ) where
    counted_live : test x ≡ true → live x ≡ true → counted test live (n + 1) l ≡ counted test live n (x ∷ l)
    unfolding every keep
    counted_live s t = rw (s, t) (ap (λ (k : ℕ). pick (every test l) (Some k) None) (omega arith))

    counted_dead : test x ≡ true → live x ≡ false → counted test live n l ≡ counted test live n (x ∷ l)
    unfolding every keep
    counted_dead s t = rw (s, t) refl

    counted_off : test x ≡ false → None ≡ counted test live n (x ∷ l)
    unfolding every
    counted_off s = rw s refl

module _ (asks : Asks) (C : Catalogue) (n left e : ℕ) where
  abbrev count : List ℕ → Option ℕ
  count = counted (edge_sound asks C) (is_live C) n

  pub edges_spent : left ≡ 0 → Some n ≡ edges_from asks C n left e
  unfolding edges_from
  edges_spent q = counted_none (edge_sound asks C) (is_live C) n ∙ sym (ap count (walk_spent (next_edge C) edge_tail left e q))

  pub edges_end : e ≡ 0 → Some n ≡ edges_from asks C n left e
  unfolding edges_from
  edges_end q = counted_none (edge_sound asks C) (is_live C) n ∙ sym (ap count (walk_end (next_edge C) edge_tail left e q))

  module _ (t : Bool) (on : left ≡ 0 → ⊥) (short : e ≡ 0 → ⊥) (h : t ≡ edge_sound asks C e) where
    pub edges_off : t ≡ false → None ≡ edges_from asks C n left e
    unfolding edges_from
    edges_off q =
        counted_off (edge_sound asks C) (is_live C) n e (walk (next_edge C) edge_tail (left - 1) (next_edge C e)) (sym h ∙ q)
        ∙ sym (ap count (walk_on (next_edge C) edge_tail left e (next_edge C e) on short refl))

    module _ (q : t ≡ true) (y : ℕ) (f : y ≡ next_edge C e) (s : Bool) (g : s ≡ is_live C e) (r : Option ℕ) where
      pub edges_live : s ≡ true → r ≡ edges_from asks C (n + 1) (left - 1) y → r ≡ edges_from asks C n left e
      unfolding edges_from
      edges_live p k =
          k
          ∙ counted_live (edge_sound asks C) (is_live C) n e (walk (next_edge C) edge_tail (left - 1) y) (sym h ∙ q) (sym g ∙ p)
          ∙ sym (ap count (walk_on (next_edge C) edge_tail left e y on short f))

      pub edges_dead : s ≡ false → r ≡ edges_from asks C n (left - 1) y → r ≡ edges_from asks C n left e
      unfolding edges_from
      edges_dead p k =
          k
          ∙ counted_dead (edge_sound asks C) (is_live C) n e (walk (next_edge C) edge_tail (left - 1) y) (sym h ∙ q) (sym g ∙ p)
          ∙ sym (ap count (walk_on (next_edge C) edge_tail left e y on short f))

-- what the next call asks of its numbers
module _ (n left : ℕ) (h : n + left ≤ 2048) where
  pub one_more : (left ≡ 0 → ⊥) → n + 1 + (left - 1) ≤ 2048
  one_more on = omega arith

  pub no_more : n + (left - 1) ≤ 2048
  no_more = omega arith

pub ruleset edges_cases = (edges_spent, edges_end, edges_off, edges_live, edges_dead, falls, edge_on, one_more, no_more, rules)

-- The whole list of a vertex, by its first_edge link.
module _ (asks : Asks) (C : Catalogue) where
  abbrev of_first : Option (Link ℕ) → List ℕ
  of_first l = walk (next_edge C) edge_tail edge_pool (at_link l edge_tail (λ next tag. next))

  abbrev by_first : Option (Link ℕ) → Option ℕ
  by_first l =
      pick (at_link l false (λ next tag. every (edge_sound asks C) (of_first l))) (Some (length (keep (is_live C) (of_first l)))) None

  module _ (x : ℕ) (l : Option (Link ℕ)) (e : l ≡ first_link C x) where
    pub at_torn : l ≡ None → None ≡ edges_at asks C x
    unfolding edges_at
    at_torn q = ap by_first (sym q ∙ e)

    pub at_whole : (k : Link ℕ) (r : Option ℕ) → l ≡ Some k → r ≡ edges_from asks C 0 2048 k.next → r ≡ edges_at asks C x
    unfolding edges_at edges_from
    at_whole k r q h =
        h
        ∙ ap (λ (n : ℕ). pick (every (edge_sound asks C) (of_first (Some k))) (Some n) None) (omega arith)
        ∙ ap by_first (sym q ∙ e)

pub ruleset whole_cases = (at_torn, at_whole, first_to, rules, arith)

-- A list has no more live edges than it has nodes, and no more nodes than its pool.
abbrev Most : Option ℕ → Type 0
Most (Some n) = n ≤ 2048
Most None = Unit {0}

pub at_most : (asks : Asks) (C : Catalogue) (x live : ℕ) (r : Option ℕ) → r ≡ edges_at asks C x → r ≡ Some live → live ≤ 2048
unfolding edges_at
at_most asks C x live r e q =
    subst Most (sym e ∙ q)
    (pick_both Most (edges_sound asks C x) _ _
    (λ h. le_trans (keep_short (is_live C) (edges_of C x)) (walk_bounded (next_edge C) edge_tail edge_pool (first_edge C x)))
    (λ h. tt))
