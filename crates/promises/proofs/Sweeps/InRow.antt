-- A list whose nodes have their numbers in a row, each leading to the one after it, is sorted if its keys rise.
use Prim.Native.Nat.{ℕ, zero, suc, ◌+◌, ◌-◌, ◌≤◌, ◌<◌}
use mathlib.Core.Logic.{inl, inr}
use mathlib.Core.Path.{◌≡◌, refl, sym, ap, ◌∙◌}
use native.Mathlib.Omega.{arith}
use borrow.Author.Tests.{lt-ltb, le-ltb, ltb-true}
use lib.Dec.{ltb}
use lib.Signed.{◌<ℤ◌}
use Rattle.catalogue.specs.Tests.{pick, table_from}
use Rattle.laws.proofs.Picks.{pick_both}
use Rattle.laws.proofs.Members.{All}
use Rattle.resting.specs.Kept.{row}
use Rattle.row.proofs.Base.{same?, lt_or}
use Rattle.row.proofs.Lists.LinkLaws.{run_trans}
use Rattle.row.specs.Lists.Links.{Run, stop, go, View, Follows, Sorted}

-- what holds of a row holds of each of its numbers
pub all_in_row : (P : ℕ → Type 0) (from n : ℕ) → All P (row from n) → (i : ℕ) → from ≤ i → i < from + n → P i
unfolding table_from
all_in_row P from zero h i a b = absurd (omega arith)
all_in_row P from (suc n) h i a b = elim (same? from i) [ inl q ↦ rw (← q) h.0 | inr d ↦ all_in_row P (suc from) n h.1 i (omega arith) (omega arith) ]

-- The nodes of the numbers `from` to before `last`, between a head and the node of an end;
-- `after i` is the number i if it is one of them, else the end.
module _ {N : Type 0} (L : View N) (hd : N) (node : ℕ → N) (end from last : ℕ) where
  abbrev after : ℕ → ℕ
  after i = pick (ltb i last) i end

  pub data Place (x : N) : Type 0 where
    first : x ≡ hd → Place x
    final : x ≡ node end → Place x
    inner : (i : ℕ) → from ≤ i → i < last → x ≡ node i → Place x

  -- a node that leads to the number i
  pub record Onward (x : N) (i : ℕ) : Type 0 where
    pub inside : L.mine x
    pub goes : L.next x ≡ node (after i)
    pub apart : x ≡ node end → ⊥
    pub rises : L.key x <ℤ L.key (L.next x)

  pub record Row : Type 0 where
    pub ends : L.mine (node end)
    pub starts : Onward hd from
    pub goes_on : (i : ℕ) → from ≤ i → i < last → Onward (node i) (suc i)
    pub covers : (x : N) → L.mine x → Place x

  module _ (r : Row) where
    follows : (x : N) (i : ℕ) → from ≤ i → Onward x i → Follows L x (L.next x)
    follows x i a l =
        record {
          inside = rw l.goes (pick_both (λ j. L.mine (node j)) (ltb i last) i end (λ e. (r.goes_on i a (ltb-true i last e)).inside) (λ e. r.ends));
          above = l.rises;
        }

    to_number : (x : N) (i : ℕ) → i < last → Onward x i → Run L.next (node end) (node i) x
    to_number x i b l = go l.apart (stop (l.goes ∙ ap node (rw (lt-ltb i last b) refl)))

    to_end : (x : N) (i : ℕ) → last ≤ i → Onward x i → Run L.next (node end) (node end) x
    to_end x i b l = go l.apart (stop (l.goes ∙ ap node (rw (le-ltb i last b) refl)))

    reached : (j i : ℕ) → i ≡ from + j → i < last → Run L.next (node end) (node i) hd
    reached zero i e b = to_number hd i b (rw (let q : i ≡ from = omega arith in q) r.starts)
    reached (suc j) i e b =
        let q : i ≡ suc (from + j) = omega arith in
        run_trans (reached j (from + j) refl (omega arith)) (to_number (node (from + j)) i b (rw q (r.goes_on (from + j) (omega arith) (omega arith))))

    end_reached : Run L.next (node end) (node end) hd
    end_reached =
        elim (lt_or from last) [
          | inl b ↦
              let j : ℕ = last - suc from in
              run_trans (reached j (from + j) refl (omega arith))
              (to_end (node (from + j)) (suc (from + j)) (omega arith) (r.goes_on (from + j) (omega arith) (omega arith)))
          | inr b ↦ to_end hd from b r.starts
        ]

    pub row_sorted : Sorted hd (node end) L
    row_sorted = record { head_in = r.starts.inside; follows = λ x m d. on x d (r.covers x m); linked = λ x m u. by x (r.covers x m) }
      where
        on : (x : N) → (x ≡ node end → ⊥) → Place x → Follows L x (L.next x)
        on x d (first q) = rw q (follows hd from (omega arith) r.starts)
        on x d (final q) = absurd (d q)
        on x d (inner i a b q) = rw q (follows (node i) (suc i) (omega arith) (r.goes_on i a b))

        by : (x : N) → Place x → Run L.next (node end) x hd
        by x (first q) = stop (sym q)
        by x (final q) = rw q end_reached
        by x (inner i a b q) = rw q (reached (i - from) i (omega arith) b)
