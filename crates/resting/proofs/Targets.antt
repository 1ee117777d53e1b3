-- The edges of a catalogue that holds keys and edges lead to its vertices, and all of them are live.
use Prim.Native.Nat.{ℕ, zero, suc, ◌<◌, ◌≤◌}
use mathlib.Core.Bool.{true, false}
use mathlib.Core.List.{List}
use mathlib.Core.Path.{◌≡◌, sym, ap, ap₂, ◌∙◌}
use native.Mathlib.Omega.{arith}
use lib.IntN.{ℤ}
use lib.ListN.{length, get_or}
use lib.Dec.{eqb}
use Rattle.catalogue.specs.Tests.{pick}
use Rattle.catalogue.specs.Numbers.{added}
use Rattle.catalogue.specs.Catalogue.{at_link, at_target}
use Rattle.catalogue.specs.Live.{edges_of, unmarked, is_live, live_edges_of}
use Rattle.catalogue.specs.Sweep.{SweptEdge, held}
use Rattle.laws.proofs.Members.{All, all_at, keep_all}
use Rattle.resting.specs.Kept.{row, In, start, size, stop, Leads}
use Rattle.resting.proofs.Rows.{all_row}
use Rattle.resting.proofs.Blocks.{blank}
use Rattle.resting.proofs.SweptReads.{target_at, edge_key_at, vertex_key_at}
use Rattle.resting.proofs.Shape.{unmarked_at}
use Rattle.resting.proofs.Shares.{Aimed, Fits, row_low, link_row, edges_row}

module _ {keys : List ℤ} {es : List SweptEdge} {share : ℕ → List SweptEdge} (f : Fits keys es share) where
  pub leads : (e : ℕ) → 1 ≤ e → e ≤ length es → Leads keys es e
  leads zero a b = absurd (omega arith)
  leads (suc j) a b =
      let aimed : Aimed keys (get_or es j blank) = all_at (Aimed keys) blank es j f.aimed (omega arith) in
      record {
        to = (get_or es j blank).target;
        read = target_at keys es j (omega (arith, aimed.high, f.few));
        low = aimed.low;
        high = aimed.high;
        keyed = vertex_key_at keys es (get_or es j blank).target aimed.low ∙ aimed.keyed ∙ sym (edge_key_at keys es j);
      }

  module _ (i : ℕ) (r : In keys i) where
    pub leads_row : (e : ℕ) → start share i ≤ e → e < stop share i → Leads keys es e
    leads_row e a b = leads e (omega arith) (omega (arith, row_low f i r))

    -- ADDED, and to a vertex without a mark
    pub is_live_row : (e : ℕ) → start share i ≤ e → e < stop share i → is_live (held keys es) e ≡ true
    is_live_row e a b =
        let d : Leads keys es e = leads_row e a b in
        ap₂ (λ t u. pick t u false) (ap (λ l. at_link l false (λ next tag. eqb tag added)) (link_row f i r e a b))
        (ap (λ l. at_target l false (unmarked (held keys es))) d.read ∙ unmarked_at keys es f.few d.to d.low d.high)

    pub list_live : All (λ e. is_live (held keys es) e ≡ true) (edges_of (held keys es) i)
    list_live = rw (edges_row f i r) (all_row (λ e. is_live (held keys es) e ≡ true) (start share i) (size share i) is_live_row)

    pub live_edges_row : live_edges_of (held keys es) i ≡ row (start share i) (size share i)
    live_edges_row = keep_all (is_live (held keys es)) (edges_of (held keys es) i) list_live ∙ edges_row f i r
