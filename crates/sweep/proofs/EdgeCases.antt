-- The new edges of one source, by the cases of the walk of its list.
use Prim.Native.Nat.{ℕ, ◌+◌, ◌-◌, ◌≤◌, ◌<◌}
use mathlib.Core.Bool.{Bool, true, false}
use mathlib.Core.List.{List, ◌∷◌}
use mathlib.Core.Path.{◌≡◌, refl, sym, ap, ◌∙◌}
use native.Mathlib.Omega.{arith}
use borrow.Author.Rules.{rules}
use lib.IntN.{ℤ}
use lib.ListN.{length}
use Rattle.catalogue.specs.Tests.{pick}
use Rattle.catalogue.specs.Lent.{Memory}
use Rattle.listing.specs.Walks.{kept_from}
use Rattle.listing.proofs.Kept.{going_on}
use Rattle.sweep.specs.declared.copies.Tip.{Tip}
use Rattle.sweep.specs.Built.{with_edges, copied, tip_after}
use Rattle.sweep.proofs.Kept.{none_built, end_built, none_counted, end_counted}

module _ (next : ℕ → ℕ) (end : ℕ) (test : ℕ → Bool) (fuel x : ℕ) where
  abbrev kept : ℕ → ℕ → List ℕ
  kept = kept_from next end test

  module _ (keys : ℕ → ℤ) (targets : ℕ → ℕ) (source n p : ℕ) (m : Memory) where
    abbrev built : List ℕ → Memory
    built l = with_edges keys targets source l n p m

    pub edges_none : fuel ≡ 0 → m ≡ built (kept fuel x)
    unfolding with_edges
    edges_none = none_built next end test fuel x built

    pub edges_end : x ≡ end → m ≡ built (kept fuel x)
    unfolding with_edges
    edges_end = end_built next end test fuel x built

  -- one more node, after which r is the tip
  module _ (y : ℕ) (some : fuel ≡ 0 → ⊥) (e : x ≡ end → ⊥) (on : y ≡ next x) (tip : Tip) where
    abbrev rest : List ℕ
    rest = kept (fuel - 1) y

    kept_is : kept fuel x ≡ pick (test x) (x ∷ rest) rest
    kept_is = going_on next end test fuel x y (test x) (test x) some e refl refl on

    counted : (t : Bool) → (tip_after t tip).n + length rest ≡ tip.n + length (pick t (x ∷ rest) rest)
    unfolding tip_after
    counted true = omega arith
    counted false = refl

    behind : (t : Bool) → tip.p < 2048 → (tip_after t tip).n ≤ 2047 → (tip_after t tip).p < 2048
    unfolding tip_after
    behind true low room = omega arith
    behind false low room = low

    pub room_first : (n : ℕ) (t : Bool) → n + length (kept fuel x) ≤ 2047 → n ≡ tip.n → t ≡ test x → (tip_after t tip).n ≤ 2047
    room_first n t room same q = rw q (omega (arith, counted (test x), ap length kept_is))

    module _ (r : Tip) (after : r ≡ tip_after (test x) tip) (n : ℕ) (same : n ≡ tip.n) where
      same_count : r.n + length rest ≡ n + length (kept fuel x)
      same_count =
          ap (λ k. k.n + length rest) after
          ∙ counted (test x)
          ∙ ap (λ k. k + length (pick (test x) (x ∷ rest) rest)) (sym same)
          ∙ ap (λ l. n + length l) (sym kept_is)

      pub counted_on : (last : ℕ) → last ≡ r.n + length rest → last ≡ n + length (kept fuel x)
      counted_on last h = h ∙ same_count

      module _ (room : n + length (kept fuel x) ≤ 2047) where
        pub room_on : (made : ℕ) (left : List ℕ) → made ≡ r.n → left ≡ rest → made + length left ≤ 2047
        room_on made left q l = omega (arith, same_count, ap length l)

        pub below_on : tip.p < 2048 → r.p < 2048
        below_on low = rw after (behind (test x) low (room_first n (test x) room same refl))

    module _ (r : Tip) (after : r ≡ tip_after (test x) tip) (keys : ℕ → ℤ) (targets : ℕ → ℕ) (m m' m'' : Memory) where
      joined : (t : Bool)
          → with_edges keys targets (tip_after t tip).source rest (tip_after t tip).n (tip_after t tip).p (copied t tip (keys x) (targets x) m)
          ≡ built keys targets tip.source tip.n tip.p m (pick t (x ∷ rest) rest)
      unfolding with_edges tip_after copied
      joined true = refl
      joined false = refl

      pub edges_on : m' ≡ copied (test x) tip (keys x) (targets x) m → m'' ≡ with_edges keys targets r.source rest r.n r.p m'
          → m'' ≡ built keys targets tip.source tip.n tip.p m (kept fuel x)
      edges_on made later =
          later
          ∙ ap (λ k. with_edges keys targets k.source rest k.n k.p m') after
          ∙ ap (λ j. with_edges keys targets (tip_after (test x) tip).source rest (tip_after (test x) tip).n (tip_after (test x) tip).p j) made
          ∙ joined (test x)
          ∙ ap (built keys targets tip.source tip.n tip.p m) (sym kept_is)

pub ruleset edge_cases = (edges_none, edges_end, none_counted, end_counted, edges_on, counted_on, room_first, room_on, below_on, rules)
