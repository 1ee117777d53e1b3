-- Reading from positions in a text is reading what is left of it, for one line and for request lines.
use Prim.Native.Nat.{ℕ, zero, suc, ◌+◌}
use mathlib.Core.List.{List, [], ◌∷◌, ◌++◌}
use mathlib.Core.Logic.{inl, inr}
use mathlib.Core.Option.{none, some}
use mathlib.Core.Option as maybe
use Rattle.std.specs.Prelude.{Option, None, Some, Result, Ok, Err}
use Rattle.digits.specs.Digits.{at_some, found}
use Rattle.digits.specs.declared.numbers.Parsed.{Parsed}
use mathlib.Core.Path.{◌≡◌, refl, sym, ap, ◌∙◌}
use native.Mathlib.Omega.{arith}
use native.Mathlib.Nat.{zero-add, suc-add}
use lib.ListN.{length, drop}
use lib.Seq.{drop-drop}
use borrow.Author.Tests.{eq-eqb, ne_eqb}
use Rattle.catalogue.specs.Tests.{given}
use Rattle.catalogue.specs.Script.{Read, bad, good, and_then, next_line, read_line, read_request, read_requests}
use Rattle.catalogue.specs.declared.workers.Request.{Request}
use Rattle.laws.proofs.Cases.{same?}
use Rattle.laws.proofs.Picks.{clash}
use Rattle.script.specs.Words.{behind}
use Rattle.script.specs.Lines.{line_in, line_at, request_at}
use Rattle.script.specs.Shares.{at_skipped, skip_at}
use Rattle.script.specs.Checks.{requests_at}
use Rattle.script.specs.declared.bad_line.BadLine.{BadLine}
use Rattle.script.proofs.Cursors.{requests_none, requests_one}
use Rattle.script.proofs.LineLaws.{before}
use Rattle.script.proofs.ShareLaws.{skip_none, skip_one}

-- ---- one line

-- what is left after a line
line_rest : (t : List ℕ) (r : List ℕ × List ℕ) → next_line t ≡ some r → r.1 ≡ drop (suc (length r.0)) t
unfolding next_line
line_rest [] r e = clash (cc)
line_rest (b ∷ bs) r e =
    elim (same? b 10) [
      | inl q ↦ let p : ◌≡◌ {A = List ℕ × List ℕ} ([], bs) r = ended q in ap (λ s. s.1) (sym p) ∙ ap (λ s. drop (length s.0) bs) p
      | inr n ↦ by (next_line bs) (line_rest bs) (rw (ne_eqb b 10 n) at e)
    ]
  where
    ended : b ≡ 10 → ◌≡◌ {A = List ℕ × List ℕ} ([], bs) r
    ended q = let s : ◌≡◌ {A = maybe.Option (List ℕ × List ℕ)} (some ([], bs)) (some r) = rw (eq-eqb b 10 q) at e in cc

    by : (o : maybe.Option (List ℕ × List ℕ)) → ((s : List ℕ × List ℕ) → o ≡ some s → s.1 ≡ drop (suc (length s.0)) bs) → before b o ≡ some r → r.1 ≡ drop (length r.0) bs
    by none rest e = clash (cc)
    by (some s) rest e =
        let p : ◌≡◌ {A = List ℕ × List ℕ} (b ∷ s.0, s.1) r = cc in
        ap (λ s. s.1) (sym p) ∙ rest s refl ∙ ap (λ s. drop (length s.0) bs) p

module _ {A : Type 0} (kind : List ℕ → maybe.Option A) (n : ℕ) (text : List ℕ) (at : ℕ) where
  abbrev told : Option (Parsed A) → Read (A × List ℕ)
  told o = at_some o (bad n) (λ p. good (p.value, drop p.next text))

  pub line_read : read_line kind n (drop at text) ≡ told (line_at kind text at)
  line_read = by (next_line (drop at text)) refl
    where
      kinds : (r : List ℕ × List ℕ) → r.1 ≡ drop (behind at r.0) text → (o : maybe.Option A)
          → given o (bad n) (λ a. good (a, r.1)) ≡ told (given o None (λ a. found a (behind at r.0)))
      kinds r q none = refl
      kinds r q (some a) = rw q

      by : (o : maybe.Option (List ℕ × List ℕ)) → next_line (drop at text) ≡ o
          → given {B = Read (A × List ℕ)} o (bad n) (λ r. given (kind r.0) (bad n) (λ a. good (a, r.1))) ≡ told (line_in kind at o)
      by none q = refl
      by (some r) q = kinds r (line_rest (drop at text) r q ∙ drop-drop (suc (length r.0)) at text) (kind r.0)

-- ---- request lines

abbrev pub bad_line : {A : Type 0} → ℕ → Result A BadLine
bad_line n = Err (record { line = n })

module _ (text : List ℕ) where
  pub skip_read : (count n at : ℕ) → read_requests count n (drop at text) ≡ at_skipped (skip_at text count n at) bad (λ next. good (requests_at text count at, drop next text))
  unfolding read_requests request_at
  skip_read zero n at = rw (skip_none text n at, requests_none text at)
  skip_read (suc count) n at =
      rw (line_read read_request n text at, skip_one text count n at, requests_one text count at) (by (line_at read_request text at) (skip_read count (suc n)))
    where
      joined : (q : Request) (next : ℕ) (s : Result ℕ BadLine)
          → and_then {A = List Request × List ℕ} {B = List Request × List ℕ} (at_skipped s bad (λ m. good (requests_at text count next, drop m text))) (λ rs. good (q ∷ rs.0, rs.1))
          ≡ at_skipped s bad (λ m. good (q ∷ requests_at text count next, drop m text))
      joined q next (Err b) = refl
      joined q next (Ok m) = refl

      by : (o : Option (Parsed Request))
          → ((at : ℕ) → read_requests count (suc n) (drop at text) ≡ at_skipped (skip_at text count (suc n) at) bad (λ next. good (requests_at text count at, drop next text)))
          → and_then {A = Request × List ℕ} {B = List Request × List ℕ} (told read_request n text at o) (λ r. and_then (read_requests count (suc n) r.1) (λ rs. good (r.0 ∷ rs.0, rs.1)))
          ≡ at_skipped (at_some o (bad_line n) (λ r. skip_at text count (suc n) r.next)) bad
          (λ next. good (at_some o [] (λ r. r.value ∷ requests_at text count r.next), drop next text))
      by None rest = refl
      by (Some p) rest = rw (rest p.next) (joined p.value p.next (skip_at text count (suc n) p.next))

  -- the lines of two counts are those of their sum
  pub skip_sum : (a b n at : ℕ) → skip_at text (a + b) n at ≡ at_skipped (skip_at text a n at) bad_line (λ next. skip_at text b (n + a) next)
  skip_sum zero b n at = let z : n + 0 ≡ n = omega arith in rw (zero-add b, skip_none text n at, z)
  skip_sum (suc a) b n at = rw (suc-add a b, skip_one text (a + b) n at, skip_one text a n at) (by (request_at text at) (skip_sum a b (suc n)))
    where
      moved : (s : Result ℕ BadLine) → at_skipped s bad_line (λ next. skip_at text b (suc n + a) next) ≡ at_skipped s bad_line (λ next. skip_at text b (n + suc a) next)
      moved (Err m) = refl
      moved (Ok next) = let z : suc n + a ≡ n + suc a = omega arith in rw z

      by : (r : Option (Parsed Request)) → ((at : ℕ) → skip_at text (a + b) (suc n) at ≡ at_skipped (skip_at text a (suc n) at) bad_line (λ next. skip_at text b (suc n + a) next))
          → at_some r (bad_line n) (λ q. skip_at text (a + b) (suc n) q.next)
          ≡ at_skipped (at_some r (bad_line n) (λ q. skip_at text a (suc n) q.next)) bad_line (λ next. skip_at text b (n + suc a) next)
      by None rest = refl
      by (Some q) rest = rest q.next ∙ moved (skip_at text a (suc n) q.next)

  pub requests_sum : (a b n at next : ℕ) → skip_at text a n at ≡ Ok next → requests_at text (a + b) at ≡ requests_at text a at ++ requests_at text b next
  requests_sum zero b n at next e =
      let q : at ≡ next = ended (sym (skip_none text n at) ∙ e) in
      rw (zero-add b, requests_none text at, q)
    where
      ended : ◌≡◌ {A = Result ℕ BadLine} (Ok at) (Ok next) → at ≡ next
      ended e = cc
  requests_sum (suc a) b n at next e =
      rw (suc-add a b, requests_one text (a + b) at, requests_one text a at) (by (request_at text at) (λ m. requests_sum a b (suc n) m next) (sym (skip_one text a n at) ∙ e))
    where
      by : (r : Option (Parsed Request)) → ((m : ℕ) → skip_at text a (suc n) m ≡ Ok next → requests_at text (a + b) m ≡ requests_at text a m ++ requests_at text b next)
          → at_some r (bad_line n) (λ q. skip_at text a (suc n) q.next) ≡ Ok next
          → at_some r [] (λ q. q.value ∷ requests_at text (a + b) q.next) ≡ at_some r [] (λ q. q.value ∷ requests_at text a q.next) ++ requests_at text b next
      by None rest e = clash (cc)
      by (Some q) rest e = ap (λ l. q.value ∷ l) (rest q.next e)

  pub requests_long : (a n at next : ℕ) → skip_at text a n at ≡ Ok next → length (requests_at text a at) ≡ a
  requests_long zero n at next e = ap length (requests_none text at)
  requests_long (suc a) n at next e =
      rw (requests_one text a at) (by (request_at text at) (λ m. requests_long a (suc n) m next) (sym (skip_one text a n at) ∙ e))
    where
      by : (r : Option (Parsed Request)) → ((m : ℕ) → skip_at text a (suc n) m ≡ Ok next → length (requests_at text a m) ≡ a)
          → at_some r (bad_line n) (λ q. skip_at text a (suc n) q.next) ≡ Ok next → length (at_some r [] (λ q. q.value ∷ requests_at text a q.next)) ≡ suc a
      by None rest e = clash (cc)
      by (Some q) rest e = ap suc (rest q.next e)
