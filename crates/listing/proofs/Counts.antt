-- A count of what a walk keeps, by the cases of the recursion.
use Prim.Native.Nat.{ℕ, ◌+◌, ◌*◌, ◌-◌, ◌≤◌}
use mathlib.Core.Bool.{Bool, true, false}
use mathlib.Core.List.{List, [], ◌∷◌}
use mathlib.Core.Path.{◌≡◌, sym, ap, ◌∙◌}
use native.Mathlib.Omega.{arith}
use mir.Syntax.{w16, w64}
use mir.Val.{Fits}
use lib.ListN.{length, length-append}
use borrow.Author.Rules.{rules}
use Rattle.catalogue.specs.Live.{gather}
use Rattle.laws.proofs.Gathers.{gather_none, gather_first}
use Rattle.survey.proofs.WalkLaws.{falls}
use Rattle.listing.specs.Walks.{kept_from}
use Rattle.listing.proofs.Kept.{none_left, at_end, going_on, gather_on, gather_off, kept_short}

-- a walk from a node that was read
pub same_walk : (next : ℕ → ℕ) (end : ℕ) (test : ℕ → Bool) (fuel first x : ℕ) → first ≡ x → kept_from next end test fuel first ≡ kept_from next end test fuel x
same_walk next end test fuel first x e = ap (kept_from next end test fuel) e

module _ (next : ℕ → ℕ) (end : ℕ) (test : ℕ → Bool) (fuel x : ℕ) where
  pub count_none : fuel ≡ 0 → 0 ≡ length (kept_from next end test fuel x)
  count_none e = sym (ap length (none_left next end test fuel x e))

  pub count_end : x ≡ end → 0 ≡ length (kept_from next end test fuel x)
  count_end e = sym (ap length (at_end next end test fuel x e))

  module _ (y rest : ℕ) (r : Bool) (some : fuel ≡ 0 → ⊥) (e : x ≡ end → ⊥) (q : r ≡ test x) (on : y ≡ next x)
      (counted : rest ≡ length (kept_from next end test (fuel - 1) y)) where
    pub count_kept : r ≡ true → rest + 1 ≡ length (kept_from next end test fuel x)
    count_kept h = omega (arith, counted, ap length (going_on next end test fuel x y true r some e q h on))

    pub count_left : r ≡ false → rest ≡ length (kept_from next end test fuel x)
    count_left h = counted ∙ sym (ap length (going_on next end test fuel x y false r some e q h on))

pub count_fits : (next : ℕ → ℕ) (end : ℕ) (test : ℕ → Bool) (fuel y rest : ℕ) → Fits w16 fuel
    → rest ≡ length (kept_from next end test (fuel - 1) y) → Fits w64 (rest + 1)
count_fits next end test fuel y rest f counted = record { fits = omega (arith, f.fits, counted, kept_short next end test (fuel - 1) y) }

pub ruleset count_cases = (count_none, count_end, count_kept, count_left, count_fits, falls, rules)

-- the same where a node stands for a list of its own
module _ (next : ℕ → ℕ) (end : ℕ) (test : ℕ → Bool) (own : ℕ → List ℕ) (fuel x : ℕ) where
  abbrev all : List ℕ
  all = kept_from next end test fuel x

  pub owned_none : fuel ≡ 0 → 0 ≡ length (gather own all)
  owned_none e = sym (ap length (ap (gather own) (none_left next end test fuel x e) ∙ gather_none own))

  pub owned_end : x ≡ end → 0 ≡ length (gather own all)
  owned_end e = sym (ap length (ap (gather own) (at_end next end test fuel x e) ∙ gather_none own))

  module _ (y rest : ℕ) (r : Bool) (some : fuel ≡ 0 → ⊥) (e : x ≡ end → ⊥) (q : r ≡ test x) (on : y ≡ next x)
      (counted : rest ≡ length (gather own (kept_from next end test (fuel - 1) y))) where
    pub owned_left : r ≡ false → rest ≡ length (gather own all)
    owned_left h = counted ∙ sym (ap length (gather_off next end test own fuel x y r some e q on h))

    pub owned_kept : (here : ℕ) (these : List ℕ) → r ≡ true → here ≡ length these → these ≡ own x → here + rest ≡ length (gather own all)
    owned_kept here these h c e' =
        omega (arith, c, counted, ap length e', ap length (gather_on next end test own fuel x y r some e q on h), length-append (own x) (gather own (kept_from next end test (fuel - 1) y)))

pub gather_short : (own : ℕ → List ℕ) → ((n : ℕ) → length (own n) ≤ 2048) → (l : List ℕ) → length (gather own l) ≤ 2048 * length l
gather_short own short [] = rw (gather_none own) (omega arith)
gather_short own short (x ∷ xs) =
    omega (arith, ap length (gather_first own x xs), length-append (own x) (gather own xs), short x, gather_short own short xs)

-- `own` gives what a second walk keeps
pub owned_fits : (next : ℕ → ℕ) (end : ℕ) (test : ℕ → Bool) (own : ℕ → List ℕ) (fuel y rest here : ℕ) (next' : ℕ → ℕ) (end' : ℕ) (test' : ℕ → Bool) (first : ℕ)
    → Fits w16 fuel → rest ≡ length (gather own (kept_from next end test (fuel - 1) y)) → here ≡ length (kept_from next' end' test' 2048 first)
    → ((n : ℕ) → length (own n) ≤ 2048) → Fits w64 (here + rest)
owned_fits next end test own fuel y rest here next' end' test' first f counted c short =
    let many : List ℕ = kept_from next end test (fuel - 1) y in
    record {
      fits = omega (arith, f.fits, c, counted, kept_short next' end' test' 2048 first, kept_short next end test (fuel - 1) y, gather_short own short many);
    }

-- both counts
pub ruleset contents_counts = (owned_none, owned_end, owned_left, owned_kept, owned_fits, kept_short, same_walk, count_cases)
