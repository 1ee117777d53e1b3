-- What a walk keeps, by the cases of its recursion.
use Prim.Native.Nat.{ℕ, ◌-◌, ◌≤◌}
use mathlib.Core.Bool.{Bool, true, false}
use mathlib.Core.List.{List, [], ◌∷◌, ◌++◌}
use mathlib.Core.Path.{◌≡◌, sym, ap, ◌∙◌}
use native.Mathlib.Nat.{le_trans}
use lib.ListN.{length}
use Rattle.catalogue.specs.Tests.{pick, keep}
use Rattle.catalogue.specs.Live.{walk, gather}
use Rattle.laws.proofs.Gathers.{gather_first}
use Rattle.laws.proofs.Members.{keep_short}
use Rattle.laws.proofs.Walks.{walk_spent, walk_end, walk_on, walk_bounded}
use Rattle.listing.specs.Walks.{kept_from}

module _ (next : ℕ → ℕ) (end : ℕ) (test : ℕ → Bool) where
  abbrev kept : ℕ → ℕ → List ℕ
  kept = kept_from next end test

  -- a walk with no fuel, and one that is at its end
  pub none_left : (fuel x : ℕ) → fuel ≡ 0 → kept fuel x ≡ []
  unfolding kept_from keep
  none_left fuel x e = ap (keep test) (walk_spent next end fuel x e)

  pub at_end : (fuel x : ℕ) → x ≡ end → kept fuel x ≡ []
  unfolding kept_from keep
  at_end fuel x e = ap (keep test) (walk_end next end fuel x e)

  -- a walk at a node that it keeps, or does not
  pub going_on : (fuel x y : ℕ) (t r : Bool) → (fuel ≡ 0 → ⊥) → (x ≡ end → ⊥) → r ≡ test x → r ≡ t → y ≡ next x
      → kept fuel x ≡ pick t (x ∷ kept (fuel - 1) y) (kept (fuel - 1) y)
  unfolding kept_from keep
  going_on fuel x y t r some e q h on =
      let rest : List ℕ = keep test (walk next end (fuel - 1) y) in
      ap (keep test) (walk_on next end fuel x y some e on) ∙ ap (λ t. pick t (x ∷ rest) rest) (sym q ∙ h)

  -- what is gathered from such a walk
  module _ {A : Type 0} (own : ℕ → List A) (fuel x y : ℕ) (r : Bool) (some : fuel ≡ 0 → ⊥) (e : x ≡ end → ⊥) (q : r ≡ test x) (on : y ≡ next x) where
    pub gather_on : r ≡ true → gather own (kept fuel x) ≡ own x ++ gather own (kept (fuel - 1) y)
    gather_on h = ap (gather own) (going_on fuel x y true r some e q h on) ∙ gather_first own x (kept (fuel - 1) y)

    pub gather_off : r ≡ false → gather own (kept fuel x) ≡ gather own (kept (fuel - 1) y)
    gather_off h = ap (gather own) (going_on fuel x y false r some e q h on)

  -- no more nodes are kept than there is fuel
  pub kept_short : (fuel x : ℕ) → length (kept fuel x) ≤ fuel
  unfolding kept_from
  kept_short fuel x = le_trans (keep_short test (walk next end fuel x)) (walk_bounded next end fuel x)
