-- The set met: the empty one has no number. With one number more that number is in it now,
-- every other one as before, and there is one more of them.
use Prim.Native.Nat.{ℕ, zero, suc, ◌+◌, ◌/◌, ◌≤◌, ◌<◌}
use mathlib.Core.Bool.{Bool, true, false}
use mathlib.Core.List.{List}
use mathlib.Core.Logic.{inl, inr}
use mathlib.Core.Path.{◌≡◌, refl, ◌∙◌}
use native.Mathlib.Omega.{arith}
use lib.ListN.{length, replicate, length-set}
use Rattle.catalogue.specs.Tests.{upd}
use Rattle.catalogue.specs.Workers.{has, with_met, count, met_count}
use Rattle.laws.proofs.Picks.{pick_both}
use Rattle.laws.proofs.Bits.{count_same}
use Rattle.laws.proofs.MetLaws.{with_met_same, with_met_other, none_met}
use Rattle.row.proofs.Base.{upd_at, upd_other, same?}

-- ---- counting

count_none : (n : ℕ) → count (λ x. false) n ≡ 0
unfolding count
count_none zero = refl
count_none (suc n) = rw (count_none n) refl

-- of n numbers no more than n pass a test
count_most : (f : ℕ → Bool) (n : ℕ) → count f n ≤ n
unfolding count
count_most f zero = omega arith
count_most f (suc n) =
    let m = count_most f n in
    pick_both (λ (k : ℕ). count f n + k ≤ suc n) (f n) 1 0 (λ e. omega (arith, m)) (λ e. omega (arith, m))

-- a test that holds at y too, and else where the other one does
module _ (f g : ℕ → Bool) (y : ℕ) (no_y : f y ≡ false) (yes_y : g y ≡ true) (others : (i : ℕ) → (i ≡ y → ⊥) → g i ≡ f i) where
  count_up : (n : ℕ) → y < n → count g n ≡ count f n + 1
  unfolding count
  count_up zero h = absurd (omega arith)
  count_up (suc n) h =
      elim (same? n y) [
        | inl q ↦ rw (q, no_y, yes_y) (omega (arith, count_same g f y (λ i l. others i (omega arith))))
        | inr d ↦ rw (others n d) (omega (arith, count_up n (omega arith)))
      ]

  -- so there was room for y
  count_room : (n : ℕ) → y < n → count f n < n
  count_room n h = omega (arith, count_up n h, count_most g n)

-- ---- the set met

pub none_counted : met_count (replicate 4 0) ≡ 0
unfolding met_count
none_counted = count_same (has (replicate 4 0)) (λ x. false) 256 (λ x h. none_met x) ∙ count_none 256

module _ (met : List ℕ) (words : length met ≡ 4) where
  pub with_met_words : (y : ℕ) → length (with_met met y) ≡ 4
  unfolding with_met
  with_met_words y = length-set met _ _ ∙ words

  module _ (y : ℕ) (small : y < 256) (none : has met y ≡ false) where
    in_words : y / 64 < length met
    in_words = rw words (omega arith)

    same : has (with_met met y) y ≡ true
    same = with_met_same met y none in_words

    other : (x : ℕ) → (x ≡ y → ⊥) → has (with_met met y) x ≡ has met x
    other = with_met_other met y none in_words

    pub with_met_upd : (x : ℕ) → has (with_met met y) x ≡ upd (has met) y true x
    with_met_upd x =
        elim (same? x y) [
          | inl q ↦ rw (q, upd_at (has met) y true y refl) same
          | inr d ↦ rw (upd_other (has met) y true x d) (other x d)
        ]

    pub met_count_up : met_count (with_met met y) ≡ met_count met + 1
    unfolding met_count
    met_count_up = count_up (has met) (has (with_met met y)) y none same other 256 small

    pub met_count_room : met_count met < 256
    unfolding met_count
    met_count_room = count_room (has met) (has (with_met met y)) y none same other 256 small
