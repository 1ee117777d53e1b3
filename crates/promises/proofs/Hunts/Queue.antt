-- The queue from its front to its back, as a list:
-- what is put at the back is its last, what stands at the front its first.
use Prim.Native.Nat.{ℕ, suc, ◌+◌, ◌≤◌, ◌<◌}
use mathlib.Core.List.{List, [], ◌∷◌, ◌++◌}
use mathlib.Core.Logic.{inl, inr}
use mathlib.Core.Path.{◌≡◌, refl, sym, ◌∙◌}
use native.Mathlib.Omega.{arith}
use native.Mathlib.Numerals.{add-one}
use lib.ListN.{length, get_or, set, take, drop}
use lib.Seq.{length-take-le, take-suc, take-suc-set, take-set-le, drop-append-le, slice_empty, slice-cons}
use Rattle.row.proofs.Base.{same?}
use Rattle.laws.proofs.Picks.{clash}

module _ (queue : List ℕ) (front back : ℕ) (ordered : front ≤ back) where
  pub queue_put : (y : ℕ) → back < length queue → drop front (take (back + 1) (set queue back y)) ≡ drop front (take back queue) ++ (y ∷ [])
  queue_put y h =
      rw (add-one back, take-suc-set queue back y h)
      (drop-append-le front (take back queue) (y ∷ []) (rw (length-take-le back queue (omega arith)) ordered))

  -- the numbers before the front are unchanged
  pub taken_stay : (y : ℕ) → take front (set queue back y) ≡ take front queue
  taken_stay y = take-set-le front queue back y ordered

  module _ (fits : back ≤ length queue) where
    pub queue_empty : drop front (take back queue) ≡ [] → front ≡ back
    queue_empty e = elim (same? front back) [ inl q ↦ q | inr d ↦ clash (cc (slice-cons front back queue 0 (omega arith) fits)) ]

    module _ (x : ℕ) (xs : List ℕ) (e : drop front (take back queue) ≡ x ∷ xs) where
      -- it is not empty
      pub queue_some : front < back
      queue_some = elim (same? front back) [ inl q ↦ clash (cc (slice_empty back queue)) | inr d ↦ omega arith ]

      parts : x ∷ xs ≡ get_or queue front 0 ∷ drop (suc front) (take back queue)
      parts = sym e ∙ slice-cons front back queue 0 queue_some fits

      pub queue_first : get_or queue front 0 ≡ x
      queue_first = cc (parts)

      pub queue_rest : drop (front + 1) (take back queue) ≡ xs
      queue_rest = rw (add-one front) (cc (parts))

      -- and is taken
      pub queue_took : take (front + 1) queue ≡ take front queue ++ (x ∷ [])
      queue_took = rw (add-one front, take-suc queue front 0 (omega (arith, queue_some)), queue_first) refl
