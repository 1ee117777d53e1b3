-- After request lines that were read, the same is asked of those left.
-- The first line of each worker joins those of the workers before.
use Prim.Native.Nat.{ℕ, suc, ◌+◌, ◌-◌, ◌≤◌, ◌<◌}
use mathlib.Core.List.{List, [], ◌∷◌, ◌++◌, append_assoc, append-nil}
use mathlib.Core.Path.{◌≡◌, refl, sym, ap, ◌∙◌}
use native.Mathlib.Omega.{arith}
use native.Mathlib.Numerals.{add-one}
use mir.Syntax.{w32}
use mir.Val.{Fits}
use lib.ListN.{length, get_or, set, take, drop, length-set, drop_of_length-le}
use lib.Seq.{length-take-le, take-suc, take-set-le, get_or-set_same, drop-cons, get_or-take}
use Rattle.catalogue.specs.Script.{Read, bad, good, and_then, sum}
use Rattle.catalogue.specs.declared.workers.Request.{Request}
use Rattle.std.specs.Prelude.{Option, Result, None, Some, Ok, Err}
use Rattle.digits.specs.Digits.{at_some}
use Rattle.digits.specs.declared.numbers.Parsed.{Parsed}
use Rattle.script.specs.Lines.{request_at}
use Rattle.script.specs.Shares.{at_skipped, skip_at, share, starts_at, onto, starts_told, Sharing}
use Rattle.script.specs.declared.bad_line.BadLine.{BadLine}
use Rattle.script.specs.declared.shares.Share.{Share}
use Rattle.script.specs.declared.shares.Shares.{Shares}
use Rattle.script.proofs.HeaderParts.{sum_pair}

-- ---- some lines skipped

pub skip_none : (text : List ℕ) (n at : ℕ) → skip_at text 0 n at ≡ Ok at
unfolding skip_at
skip_none text n at = refl

pub skip_one : (text : List ℕ) (count n at : ℕ) → skip_at text (suc count) n at ≡ at_some (request_at text at) (Err (record { line = n })) (λ r. skip_at text count (suc n) r.next)
unfolding skip_at
skip_one text count n at = refl

-- i lines were read
pub record Skipping (text : List ℕ) (at count n place i : ℕ) : Type 0 where
  pub same : skip_at text count n at ≡ skip_at text (count - i) (n + i) place
  pub within : i ≤ count

module _ (text : List ℕ) (at count n : ℕ) where
  pub skipping_none : Skipping text at count n at 0
  skipping_none =
      let a : count - 0 ≡ count = omega arith in
      let b : n + 0 ≡ n = omega arith in
      record { same = rw (a, b); within = omega arith }

  module _ (place i : ℕ) (k : Skipping text at count n place i) where
    pub skipping_end : count ≤ i → Ok place ≡ skip_at text count n at
    skipping_end h = let a : count - i ≡ 0 = omega arith in sym (k.same ∙ rw (a, skip_none))

    module _ (h : i < count) (r : Option (Parsed Request)) (e : r ≡ request_at text place) where
      opened : skip_at text count n at ≡ at_some r (Err (record { line = n + i })) (λ q. skip_at text (count - (i + 1)) (n + (i + 1)) q.next)
      opened =
          let a : count - i ≡ suc (count - (i + 1)) = omega arith in
          let b : suc (n + i) ≡ n + (i + 1) = omega arith in
          k.same ∙ rw (a, skip_one text (count - (i + 1)) (n + i) place, b, sym e)

      pub skipping_bad : r ≡ None → Err (record { line = n + i }) ≡ skip_at text count n at
      skipping_bad q = sym (opened ∙ rw q)

      pub skipping_more : (p : Parsed Request) → r ≡ Some p → Skipping text at count n p.next (i + 1)
      skipping_more p q = record { same = opened ∙ rw q; within = omega arith }

pub ruleset skips = (refl, tt, skipping_none, skipping_end, skipping_bad, skipping_more)

-- ---- the lines of each worker

pub starts_none : (text : List ℕ) (n at : ℕ) → starts_at text [] n at ≡ good ([], at)
unfolding starts_at
starts_none text n at = refl

pub starts_pair : (text : List ℕ) (count : ℕ) (counts : List ℕ) (n at : ℕ)
    → starts_at text (count ∷ counts) n at ≡ at_skipped (skip_at text count n at) bad (λ next. and_then (starts_at text counts (n + count) next) (λ r. good (share at count ∷ r.0, r.1)))
unfolding starts_at
starts_pair text count counts n at = refl

-- behind no worker, what is found is all there is
pub onto_none : (o : Read (List Share × ℕ)) → onto [] o ≡ o
onto_none (bad n) = refl
onto_none (good r) = refl

onto_pair : (front : List Share) (s : Share) (o : Read (List Share × ℕ)) → onto (front ++ (s ∷ [])) o ≡ onto front (and_then o (λ r. good (s ∷ r.0, r.1)))
onto_pair front s (bad n) = refl
onto_pair front s (good r) = rw (append_assoc front (s ∷ []) r.0)

-- what is asked of the workers from w on, behind what was found of those before
abbrev pub asked : List ℕ → ℕ → List ℕ → ℕ → ℕ → ℕ → List Share → Read (List Share × ℕ)
asked text workers counts w n place found = onto (take w found) (starts_at text (drop w (take workers counts)) n place)

-- the lines of the workers below w were read, and what is asked of the others is what was asked at first
pub record Shared (whole : Read (List Share × ℕ)) (text : List ℕ) (workers : ℕ) (counts : List ℕ) (w n place : ℕ) (found : List Share) : Type 0 where
  pub sharing : Sharing workers w n counts
  pub found_long : length found ≡ 8
  pub same : asked text workers counts w n place found ≡ whole

module _ (text : List ℕ) (workers : ℕ) (counts : List ℕ) (w n place : ℕ) (found : List Share) where
  abbrev own : List ℕ
  own = take workers counts

  pub shared_none : Sharing workers w n counts → length found ≡ 8 → Shared (asked text workers counts w n place found) text workers counts w n place found
  shared_none k l = record { sharing = k; found_long = l; same = refl }

  module _ (whole : Read (List Share × ℕ)) (k : Shared whole text workers counts w n place found) where
    own_long : length own ≡ workers
    own_long = length-take-le workers counts (omega (arith, k.sharing.few, k.sharing.counts_long))

    pub shares_end : workers ≤ w → good (take workers found, place) ≡ whole
    shares_end h =
        let s : w ≡ workers = omega (arith, k.sharing.within) in
        rw (s, drop_of_length-le own {i = workers} (omega (arith, own_long)), starts_none, append-nil) at k.same

    module _ (h : w < workers) where
      abbrev count : ℕ
      count = get_or counts w 0

      abbrev here : Share
      here = share place count

      ahead : drop w own ≡ count ∷ drop (w + 1) own
      ahead = rw (add-one) (drop-cons own w 0 (omega (arith, own_long)) ∙ ap (λ c. c ∷ drop (suc w) own) (get_or-take workers counts w 0 h))

      pub count_lines : n + count ≤ 1026
      count_lines = omega (arith, k.sharing.lines, ap sum ahead, sum_pair count (drop (w + 1) own))

      pub lines_fit : Fits w32 (n + count)
      lines_fit = record { fits = omega (arith, count_lines) }

      module _ (r : Result ℕ BadLine) (e : r ≡ skip_at text count n place) where
        opened_shares : onto (take w found) (at_skipped r bad (λ next. and_then (starts_at text (drop (w + 1) own) (n + count) next) (λ s. good (here ∷ s.0, s.1))))
            ≡ whole
        opened_shares = rw (ahead, starts_pair text count (drop (w + 1) own) n place, sym e) at k.same

        pub shares_bad : (b : BadLine) (o : Result Shares BadLine) → r ≡ Err b → o ≡ Err b → starts_told workers o ≡ whole
        shares_bad b o q d = rw d (rw q at opened_shares)

        pub shares_on : (next : ℕ) → r ≡ Ok next → Shared whole text workers counts (w + 1) (n + count) next (set found w here)
        shares_on next q =
            let within : w < length found = omega (arith, k.sharing.few, k.found_long) in
            let front : take (w + 1) (set found w here) ≡ take w found ++ (here ∷ []) =
            rw (add-one, take-suc (set found w here) w (share 0 0) (rw (length-set found w here) within), take-set-le w found w here (omega arith), get_or-set_same found w here (share 0 0) within) in
            record {
              sharing = record {
                few = k.sharing.few;
                within = omega arith;
                lines = omega (arith, k.sharing.lines, ap sum ahead, sum_pair count (drop (w + 1) own));
                counts_long = k.sharing.counts_long;
              };
              found_long = length-set found w here ∙ k.found_long;
              same =
                  ap (λ l. onto l (starts_at text (drop (w + 1) own) (n + count) next)) front
                  ∙ onto_pair (take w found) here (starts_at text (drop (w + 1) own) (n + count) next)
                  ∙ (rw q at opened_shares);
            }

pub ruleset share_cases = (refl, tt, shared_none, shares_end, count_lines, lines_fit, shares_bad, shares_on)
