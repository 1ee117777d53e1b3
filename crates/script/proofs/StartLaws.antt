-- The lines of all workers are their sum of request lines, and each worker's share is what stands from its start on.
use Prim.Native.Nat.{ℕ, ◌+◌}
use mathlib.Core.List.{List, [], ◌∷◌, ◌++◌}
use mathlib.Core.Path.{◌≡◌, refl, sym, ap, ◌∙◌}
use lib.ListN.{take, drop}
use lib.Seq.{take_at, drop_at}
use Rattle.catalogue.specs.Script.{Read, bad, good, and_then, sum}
use Rattle.catalogue.specs.Run.{shares}
use Rattle.catalogue.specs.declared.workers.Request.{Request}
use Rattle.laws.proofs.Picks.{clash}
use Rattle.script.specs.Shares.{at_skipped, skip_at, share, starts_at}
use Rattle.script.specs.Checks.{requests_at, shares_at, counts_of, share_of}
use Rattle.std.specs.Prelude.{Result, Ok, Err}
use Rattle.script.specs.declared.bad_line.BadLine.{BadLine}
use Rattle.script.specs.declared.shares.Share.{Share}
use Rattle.script.proofs.HeaderParts.{sum_none, sum_pair}
use Rattle.script.proofs.ShareLaws.{skip_none, starts_none, starts_pair}
use Rattle.script.proofs.ReadLaws.{skip_sum, requests_sum, requests_long}

abbrev pub skipped_of : Read (List Share × ℕ) → Result ℕ BadLine
skipped_of (bad n) = Err (record { line = n })
skipped_of (good r) = Ok r.1

abbrev led : Share → Read (List Share × ℕ) → Read (List Share × ℕ)
led s o = and_then o (λ r. good (s ∷ r.0, r.1))

module _ (text : List ℕ) where
  pub starts_skip : (counts : List ℕ) (n at : ℕ) → skip_at text (sum counts) n at ≡ skipped_of (starts_at text counts n at)
  starts_skip [] n at = rw (sum_none, skip_none text n at, starts_none text n at)
  starts_skip (count ∷ counts) n at =
      rw (sum_pair count counts, starts_pair text count counts n at) (skip_sum text count (sum counts) n at ∙ by (skip_at text count n at) (starts_skip counts (n + count)))
    where
      led_on : (o : Read (List Share × ℕ)) → skipped_of o ≡ skipped_of (led (share at count) o)
      led_on (bad m) = refl
      led_on (good r) = refl

      by : (s : Result ℕ BadLine) → ((next : ℕ) → skip_at text (sum counts) (n + count) next ≡ skipped_of (starts_at text counts (n + count) next))
          → at_skipped s (λ m. Err (record { line = m })) (λ next. skip_at text (sum counts) (n + count) next) ≡ skipped_of (at_skipped s bad (λ next. led (share at count) (starts_at text counts (n + count) next)))
      by (Err b) rest = refl
      by (Ok next) rest = rest next ∙ led_on (starts_at text counts (n + count) next)

  pub starts_first : (count : ℕ) (counts : List ℕ) (n at : ℕ) (r : List Share × ℕ) → starts_at text (count ∷ counts) n at ≡ good r → (share_of r.0 0).start ≡ at
  starts_first count counts n at r e = by (skip_at text count n at) (sym (starts_pair text count counts n at) ∙ e)
    where
      led_first : (o : Read (List Share × ℕ)) → led (share at count) o ≡ good r → (share_of r.0 0).start ≡ at
      led_first (bad m) e = clash (cc)
      led_first (good s) e = let p : ◌≡◌ {A = List Share × ℕ} (share at count ∷ s.0, s.1) r = cc in ap (λ (q : List Share × ℕ). (share_of q.0 0).start) (sym p)

      by : (s : Result ℕ BadLine) → at_skipped s bad (λ next. led (share at count) (starts_at text counts (n + count) next)) ≡ good r → (share_of r.0 0).start ≡ at
      by (Err b) e = clash (cc)
      by (Ok next) e = led_first (starts_at text counts (n + count) next) e

  shares_none : (rs : List Request) → shares [] rs ≡ []
  unfolding shares
  shares_none rs = refl

  shares_pair : (count : ℕ) (counts : List ℕ) (rs : List Request) → shares (count ∷ counts) rs ≡ take count rs ∷ shares counts (drop count rs)
  unfolding shares
  shares_pair count counts rs = refl

  own_none : shares_at text [] ≡ []
  unfolding shares_at
  own_none = refl

  own_pair : (s : Share) (ss : List Share) → shares_at text (s ∷ ss) ≡ requests_at text s.count s.start ∷ shares_at text ss
  unfolding shares_at
  own_pair s ss = refl

  none_found : (n at : ℕ) (r : List Share × ℕ) → starts_at text [] n at ≡ good r → ◌≡◌ {A = List Share × ℕ} ([], at) r
  none_found n at r e = let q : good ([], at) ≡ good r = sym (starts_none text n at) ∙ e in cc

  -- the counts are those that were asked for
  pub starts_counts : (counts : List ℕ) (n at : ℕ) (r : List Share × ℕ) → starts_at text counts n at ≡ good r → counts_of r.0 ≡ counts
  starts_counts [] n at r e = ap (λ (s : List Share × ℕ). counts_of s.0) (sym (none_found n at r e))
  starts_counts (count ∷ counts) n at r e =
      by (skip_at text count n at) (starts_counts counts (n + count)) (sym (starts_pair text count counts n at) ∙ e)
    where
      led_on : (o : Read (List Share × ℕ)) → ((s : List Share × ℕ) → o ≡ good s → counts_of s.0 ≡ counts) → led (share at count) o ≡ good r → counts_of r.0 ≡ count ∷ counts
      led_on (bad m) others e = clash (cc)
      led_on (good s) others e =
          let p : ◌≡◌ {A = List Share × ℕ} (share at count ∷ s.0, s.1) r = cc in
          ap (λ (s : List Share × ℕ). counts_of s.0) (sym p) ∙ ap (λ l. count ∷ l) (others s refl)

      by : (s : Result ℕ BadLine) → ((next : ℕ) (s : List Share × ℕ) → starts_at text counts (n + count) next ≡ good s → counts_of s.0 ≡ counts)
          → at_skipped s bad (λ next. led (share at count) (starts_at text counts (n + count) next)) ≡ good r → counts_of r.0 ≡ count ∷ counts
      by (Err b) others e = clash (cc)
      by (Ok next) others e = led_on (starts_at text counts (n + count) next) (others next) e

  pub starts_shares : (counts : List ℕ) (n at : ℕ) (r : List Share × ℕ) → starts_at text counts n at ≡ good r
      → shares counts (requests_at text (sum counts) at) ≡ shares_at text r.0
  starts_shares [] n at r e = shares_none (requests_at text (sum []) at) ∙ sym own_none ∙ ap (λ (s : List Share × ℕ). shares_at text s.0) (none_found n at r e)
  starts_shares (count ∷ counts) n at r e =
      by (skip_at text count n at) refl (starts_shares counts (n + count)) (sym (starts_pair text count counts n at) ∙ e)
    where
      cut : (next : ℕ) → skip_at text count n at ≡ Ok next → requests_at text (sum (count ∷ counts)) at ≡ requests_at text count at ++ requests_at text (sum counts) next
      cut next q = ap (λ m. requests_at text m at) (sum_pair count counts) ∙ requests_sum text count (sum counts) n at next q

      own : (next : ℕ) → skip_at text count n at ≡ Ok next → take count (requests_at text (sum (count ∷ counts)) at) ≡ requests_at text count at
      own next q = rw (cut next q) (take_at (requests_at text count at) (requests_at text (sum counts) next) count (requests_long text count n at next q))

      rest : (next : ℕ) → skip_at text count n at ≡ Ok next → drop count (requests_at text (sum (count ∷ counts)) at) ≡ requests_at text (sum counts) next
      rest next q = rw (cut next q) (drop_at (requests_at text count at) (requests_at text (sum counts) next) count (requests_long text count n at next q))

      led_on : (next : ℕ) → skip_at text count n at ≡ Ok next → (o : Read (List Share × ℕ))
          → ((s : List Share × ℕ) → o ≡ good s → shares counts (requests_at text (sum counts) next) ≡ shares_at text s.0) → led (share at count) o ≡ good r
          → shares (count ∷ counts) (requests_at text (sum (count ∷ counts)) at) ≡ shares_at text r.0
      led_on next q (bad m) others e = clash (cc)
      led_on next q (good s) others e =
          let p : ◌≡◌ {A = List Share × ℕ} (share at count ∷ s.0, s.1) r = cc in
          shares_pair count counts (requests_at text (sum (count ∷ counts)) at)
          ∙ rw (own next q, rest next q, others s refl) (sym (own_pair (share at count) s.0))
          ∙ ap (λ (s : List Share × ℕ). shares_at text s.0) p

      by : (s : Result ℕ BadLine) → skip_at text count n at ≡ s
          → ((next : ℕ) (s : List Share × ℕ) → starts_at text counts (n + count) next ≡ good s → shares counts (requests_at text (sum counts) next) ≡ shares_at text s.0)
          → at_skipped s bad (λ next. led (share at count) (starts_at text counts (n + count) next)) ≡ good r
          → shares (count ∷ counts) (requests_at text (sum (count ∷ counts)) at) ≡ shares_at text r.0
      by (Err b) q others e = clash (cc)
      by (Ok next) q others e = led_on next q (starts_at text counts (n + count) next) (others next) e
