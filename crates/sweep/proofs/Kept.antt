-- A walk with fuel by the cases of its recursion, under any function of the nodes that it keeps.
-- Such are their number, the room for them, and what is built of them.
use Prim.Native.Nat.{ℕ, ◌+◌, ◌-◌, ◌≤◌, ◌<◌}
use mathlib.Core.Bool.{Bool, true, false}
use mathlib.Core.List.{List, [], ◌∷◌}
use mathlib.Core.Path.{◌≡◌, sym, ap}
use native.Mathlib.Omega.{arith}
use lib.ListN.{length}
use Rattle.listing.specs.Walks.{kept_from}
use Rattle.listing.proofs.Kept.{none_left, at_end, going_on}

module _ (next : ℕ → ℕ) (end : ℕ) (test : ℕ → Bool) (fuel x : ℕ) where
  abbrev kept : ℕ → ℕ → List ℕ
  kept = kept_from next end test

  -- a walk that keeps nothing
  module _ {A : Type 0} (f : List ℕ → A) where
    pub none_built : fuel ≡ 0 → f [] ≡ f (kept fuel x)
    none_built e = sym (ap f (none_left next end test fuel x e))

    pub end_built : x ≡ end → f [] ≡ f (kept fuel x)
    end_built e = sym (ap f (at_end next end test fuel x e))

  pub none_counted : (n : ℕ) → fuel ≡ 0 → n ≡ n + length (kept fuel x)
  none_counted n e = omega (arith, none_built length e)

  pub end_counted : (n : ℕ) → x ≡ end → n ≡ n + length (kept fuel x)
  end_counted n e = omega (arith, end_built length e)

  -- one more node
  module _ (y : ℕ) (r : Bool) (some : fuel ≡ 0 → ⊥) (e : x ≡ end → ⊥) (q : r ≡ test x) (on : y ≡ next x) where
    pub left_built : {A : Type 0} (f : List ℕ → A) → r ≡ false → f (kept (fuel - 1) y) ≡ f (kept fuel x)
    left_built f h = sym (ap f (going_on next end test fuel x y false r some e q h on))

    pub kept_built : {A : Type 0} (f : List ℕ → A) → r ≡ true → f (x ∷ kept (fuel - 1) y) ≡ f (kept fuel x)
    kept_built f h = sym (ap f (going_on next end test fuel x y true r some e q h on))

    -- room for the node, and for the rest
    module _ (n limit : ℕ) (room : n + length (kept fuel x) ≤ limit) where
      pub left_room : r ≡ false → n + length (kept (fuel - 1) y) ≤ limit
      left_room h = omega (arith, left_built length h)

      module _ (h : r ≡ true) where
        pub room_here : n < limit
        room_here = omega (arith, kept_built length h)

        pub kept_room : n + 1 + length (kept (fuel - 1) y) ≤ limit
        kept_room = omega (arith, kept_built length h)
