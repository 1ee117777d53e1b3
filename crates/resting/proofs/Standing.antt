-- Every edge number stands once, in the list of the edge's source.
use Prim.Native.Nat.{ℕ, zero, suc, ◌+◌, ◌-◌, ◌<◌, ◌≤◌}
use mathlib.Core.Bool.{true}
use mathlib.Core.List.{List, [], ◌∷◌, ◌++◌}
use mathlib.Core.Path.{◌≡◌, refl, sym, ap, ap₂, subst, ◌∙◌}
use native.Mathlib.Omega.{arith}
use lib.IntN.{ℤ}
use lib.ListN.{length, length-append, get_or-map}
use Rattle.catalogue.specs.Tests.{table_from}
use Rattle.catalogue.specs.Live.{edges_of, is_live, gather}
use Rattle.catalogue.specs.Sweep.{SweptEdge, held, source_at}
use Rattle.laws.proofs.Gathers.{gather_append}
use Rattle.laws.proofs.Members.{All, all_each, all_gather, all_at}
use Rattle.resting.specs.Kept.{row, In, start, size, stop}
use Rattle.resting.proofs.Rows.{all_row, row_append}
use Rattle.resting.proofs.Blocks.{blank, only_there}
use Rattle.resting.proofs.Shares.{Fits, together, edges_row}
use Rattle.resting.proofs.Targets.{is_live_row}

module _ {keys : List ℤ} {es : List SweptEdge} {share : ℕ → List SweptEdge} (f : Fits keys es share) where
  sources : All (λ d. In keys d.source) es
  sources =
      subst (All (λ d. In keys d.source)) (sym f.shared)
      (all_gather (λ d. In keys d.source) share (row 2 (length keys)) (all_row (λ i. All (λ d. In keys d.source) (share i)) 2 (length keys)
      (λ i a b. all_each (λ d. d.source ≡ i) (λ d. In keys d.source) (λ d q. omega arith) (share i) (f.own i (a, b)))))

  pub source_in : (e : ℕ) → 1 ≤ e → e ≤ length es → In keys (source_at es e)
  source_in zero a b = absurd (omega arith)
  source_in (suc j) a b = subst (In keys) (sym (get_or-map (λ d. d.source) es j blank)) (all_at (λ d. In keys d.source) blank es j sources (omega arith))

  pub source_row : (e : ℕ) → 1 ≤ e → e ≤ length es → (start share (source_at es e) ≤ e) × (e < stop share (source_at es e))
  source_row e a b = let r = source_in e a b in only_there (together f (source_at es e) r) (λ q. omega arith) e a refl

  pub edge_lives : (e : ℕ) → 1 ≤ e → e ≤ length es → is_live (held keys es) e ≡ true
  edge_lives e a b = let r = source_row e a b in is_live_row f (source_at es e) (source_in e a b) e r.0 r.1

  -- the edges of the next vertex begin where those of this one stop
  start_next : (i : ℕ) → 2 ≤ i → start share (suc i) ≡ stop share i
  unfolding gather table_from
  start_next i a =
      let more : row 2 (suc i - 2) ≡ row 2 (i - 2) ++ (i ∷ []) =
      ap (row 2) (let e : suc i - 2 ≡ i - 2 + 1 = omega arith in e) ∙ row_append 2 (i - 2) 1
      ∙ ap (λ j. row 2 (i - 2) ++ (j ∷ [])) (let e : 2 + (i - 2) ≡ i = omega arith in e) in
      omega (
        arith,
        ap (λ l. length (gather share l)) more,
        ap length (gather_append share (row 2 (i - 2)) (i ∷ [])),
        length-append (gather share (row 2 (i - 2))) (share i ++ []),
        length-append (share i) [],
      )

  -- so the lists of the vertices, one after the other, have all edge numbers in a row
  lists_row : (i n : ℕ) → 2 ≤ i → i + n ≡ 2 + length keys → gather (edges_of (held keys es)) (row i n) ≡ row (start share i) (length (gather share (row i n)))
  unfolding gather table_from
  lists_row i zero a b = refl
  lists_row i (suc n) a b =
      let others : List SweptEdge = gather share (row (suc i) n) in
      ap₂ ◌++◌ (edges_row f i (a, omega arith)) (lists_row (suc i) n (omega arith) (omega arith) ∙ ap (λ k. row k (length others)) (start_next i a))
      ∙ sym (row_append (start share i) (size share i) (length others))
      ∙ ap (row (start share i)) (sym (length-append (share i) others))

  pub numbers_row : gather (edges_of (held keys es)) (row 2 (length keys)) ≡ row 1 (length es)
  unfolding gather table_from
  numbers_row = lists_row 2 (length keys) (omega arith) refl ∙ ap (λ l. row 1 (length l)) (sym f.shared)
