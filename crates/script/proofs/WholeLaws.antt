-- Each way through the check ends where the definition does:
-- with the same bad line, or with the script that the positions give.
use Prim.Native.Nat.{ℕ, ◌+◌, ◌≤◌, ◌<◌}
use mathlib.Core.Bool.{Bool, true, false}
use mathlib.Core.List.{List, [], ◌∷◌}
use mathlib.Core.Logic.{inl, inr}
use Rattle.std.specs.Prelude.{Option, None, Some, Result, Ok, Err}
use Rattle.digits.specs.Digits.{at_some}
use Rattle.digits.specs.declared.numbers.Parsed.{Parsed}
use mathlib.Core.Path.{◌≡◌, refl, sym, ap, ◌∙◌}
use native.Mathlib.Omega.{arith}
use lib.Dec.{ltb}
use lib.ListN.{length, take, drop, drop_of_length-le}
use lib.Seq.{drop-cons, get_or-take}
use borrow.Author.Tests.{lt-ltb, le-ltb, le-leb, lt-leb}
use Rattle.catalogue.specs.Tests.{pick}
use Rattle.catalogue.specs.Script.{Script, Header, Read, bad, good, and_then, read_header, read_schedule, read_line, ended, read_lines, read_script, sum, script_limit}
use Rattle.catalogue.specs.declared.workers.Request.{Request}
use Rattle.laws.proofs.Picks.{clash}
use Rattle.script.specs.Lines.{line_at}
use Rattle.script.specs.Headers.{told, numbered, header_line}
use Rattle.script.specs.Shares.{at_skipped, skip_at, share, starts_at, onto, starts_told}
use Rattle.script.specs.Turns.{as_after, schedule_at}
use Rattle.script.specs.Checks.{requests_at, counts_of, share_of, turns_from, IsScript, Answers, no_script, ending_at}
use Rattle.script.specs.declared.headers.Heading.{Heading}
use Rattle.script.specs.declared.shares.Share.{Share}
use Rattle.script.specs.declared.shares.Shares.{Shares}
use Rattle.script.specs.declared.bad_line.BadLine.{BadLine}
use Rattle.script.specs.declared.checks.Checked.{Checked}
use Rattle.laws.proofs.Cases.{lt_or}
use Rattle.script.proofs.ReadLaws.{line_read, skip_read}
use Rattle.script.proofs.ShareLaws.{onto_none}
use Rattle.script.proofs.StartLaws.{skipped_of, starts_skip, starts_first, starts_counts, starts_shares}
use Rattle.script.proofs.TurnReads.{turns_read, turns_manned}
use Rattle.script.proofs.GoodHeaders.{Headed, headed, sharing_first, few_workers, few_requests}

-- ---- the lines after it

module _ (text : List ℕ) (h : Heading) (k : Headed text h) where
  abbrev counts : List ℕ
  counts = take h.workers h.counts

  abbrev scripted : List ℕ → Script
  scripted schedule = record { counts = counts; requests = requests_at text (sum counts) h.next; schedule = schedule }

  -- the schedule and what follows it
  abbrev scheduling : ℕ → Read Script
  scheduling at =
      and_then (read_line (read_schedule h.workers h.turns) (2 + h.total) (drop at text)) (λ s. ended (3 + h.total) (scripted s.0) s.1)

  lines_read : read_lines text ≡ at_skipped (skip_at text (sum counts) 2 h.next) bad scheduling
  unfolding read_lines
  lines_read = rw (line_read read_header 1 text 0, k.line, skip_read text (sum counts) 2 h.next) (by (skip_at text (sum counts) 2 h.next))
    where
      by : (s : Result ℕ BadLine)
          → and_then {B = Script} (at_skipped {A = Read (List Request × List ℕ)} s bad (λ next. good (requests_at text (sum counts) h.next, drop next text)))
          (λ rs. and_then (read_line (read_schedule (length counts) h.turns) (2 + sum counts) rs.1)
          (λ s. ended (3 + sum counts) (record { counts = counts; requests = rs.0; schedule = s.0 }) s.1))
          ≡ at_skipped s bad scheduling
      by (Err b) = refl
      by (Ok at) = rw (k.counted, k.summed)

  scheduling_read : (at : ℕ) → scheduling at ≡ at_some (schedule_at h.workers h.turns text at) (bad (2 + h.total))
      (λ next. pick (ltb next (length text)) (bad (3 + h.total)) (good (scripted (turns_from text h.turns at))))
  unfolding schedule_at
  scheduling_read at =
      rw (line_read (read_schedule h.workers h.turns) (2 + h.total) text at)
      (by (line_at (read_schedule h.workers h.turns) text at) (λ r e. (turns_read h.workers text k.few h.turns at r e).same))
    where
      by : (o : Option (Parsed (List ℕ))) → ((r : Parsed (List ℕ)) → o ≡ Some r → r.value ≡ turns_from text h.turns at)
          → and_then {A = List ℕ × List ℕ} {B = Script} (at_some o (bad (2 + h.total)) (λ p. good (p.value, drop p.next text))) (λ s. ended (3 + h.total) (scripted s.0) s.1)
          ≡ at_some (as_after o) (bad (2 + h.total)) (λ next. pick (ltb next (length text)) (bad (3 + h.total)) (good (scripted (turns_from text h.turns at))))
      by None same = refl
      by (Some s) same =
          elim (lt_or s.next (length text)) [
            | inl l ↦ rw (drop-cons text s.next 0 l, lt-ltb s.next (length text) l)
            | inr l ↦ rw (drop_of_length-le text {i = s.next} l, le-ltb s.next (length text) l, same s refl)
          ]

-- ---- the answers

module _ (text : List ℕ) where
  pub too_long : script_limit < length text → read_script text ≡ bad 0
  unfolding read_script
  too_long l = rw (lt-leb (length text) script_limit l)

  module _ (fits : length text ≤ script_limit) (o : Option Heading) (e : told o ≡ header_line text) where
    by_lines : read_script text ≡ read_lines text
    unfolding read_script
    by_lines = rw (le-leb (length text) script_limit fits)

    pub no_heading : o ≡ None → (r : Result Checked BadLine) → r ≡ no_script 1 → Answers text r
    unfolding read_lines header_line
    no_heading g r d = rw d (by_lines ∙ rw (line_read read_header 1 text 0, by (line_at read_header text 0) (rw g at e)))
      where
        by : (o : Option (Parsed Header)) → None ≡ numbered o → o ≡ None
        by None q = refl
        by (Some r) q = clash (cc)

    module _ (h : Heading) (g : o ≡ Some h) (sr : Result Shares BadLine) (asked : starts_told h.workers sr ≡ onto [] (starts_at text (take h.workers h.counts) 2 h.next)) where
      k : Headed text h
      k = headed text o e h g

      starts_are : starts_told h.workers sr ≡ starts_at text (counts text h k) 2 h.next
      starts_are = asked ∙ onto_none (starts_at text (counts text h k) 2 h.next)

      requests_read : read_script text ≡ at_skipped (skipped_of (starts_told h.workers sr)) bad (scheduling text h k)
      requests_read = by_lines ∙ lines_read text h k ∙ rw (starts_skip text (counts text h k) 2 h.next, starts_are)

      pub request_bad : (b : BadLine) → sr ≡ Err b → (r : Result Checked BadLine) → r ≡ Err b → Answers text r
      request_bad b q r f = rw f (requests_read ∙ rw q)

      module _ (sh : Shares) (q : sr ≡ Ok sh) where
        started : starts_at text (counts text h k) 2 h.next ≡ good (take h.workers sh.shares, sh.next)
        started = sym starts_are ∙ rw q

        first : (share_of sh.shares 0).start ≡ h.next
        first =
            ap (λ (s : Share). s.start) (sym (get_or-take h.workers sh.shares 0 (share 0 0) (omega (arith, k.one))))
            ∙ by (counts text h k) (omega (arith, k.counted, k.one)) started
          where
            by : (cs : List ℕ) → 1 ≤ length cs → starts_at text cs 2 h.next ≡ good (take h.workers sh.shares, sh.next) → (share_of (take h.workers sh.shares) 0).start ≡ h.next
            by [] l e = absurd (omega arith)
            by (c ∷ cs) l e = starts_first text c cs 2 h.next (take h.workers sh.shares, sh.next) e

        abbrev answer : Checked
        answer = record { workers = h.workers; shares = sh.shares; schedule = sh.next; turns = h.turns }

        counted : counts_of (take h.workers sh.shares) ≡ counts text h k
        counted = starts_counts text (counts text h k) 2 h.next (take h.workers sh.shares, sh.next) started

        all_found : (next : ℕ) → schedule_at h.workers h.turns text sh.next ≡ Some next
            → read_script text ≡ good (scripted text h k (turns_from text h.turns sh.next)) → IsScript text answer
        all_found next s e = record {
          reads = rw (counted, first) e;
          shared = rw (counted, first) (starts_shares text (counts text h k) 2 h.next (take h.workers sh.shares, sh.next) started);
          one = k.one;
          few = k.few;
          most = omega (arith, ap sum counted, k.summed, k.most);
          timed = k.timed;
          manned = turns_manned h.workers text k.few h.turns sh.next next s;
        }

        pub ended_so : (r : Result Checked BadLine) → r ≡ ending_at text h sh → Answers text r
        unfolding ending_at
        ended_so r f = rw f (by (schedule_at h.workers h.turns text sh.next) refl (requests_read ∙ rw q (scheduling_read text h k sh.next)))
          where
            behind_it : (next : ℕ) → schedule_at h.workers h.turns text sh.next ≡ Some next → (t : Bool)
                → read_script text ≡ pick t (bad (3 + h.total)) (good (scripted text h k (turns_from text h.turns sh.next)))
                → Answers text (pick t (no_script (3 + h.total)) (Ok answer))
            behind_it next s true e = e
            behind_it next s false e = all_found next s e

            by : (s : Option ℕ) → schedule_at h.workers h.turns text sh.next ≡ s
                → read_script text ≡ at_some s (bad (2 + h.total)) (λ next. pick (ltb next (length text)) (bad (3 + h.total)) (good (scripted text h k (turns_from text h.turns sh.next))))
                → Answers text (at_some s (no_script (2 + h.total)) (λ next. pick (ltb next (length text)) (no_script (3 + h.total)) (Ok answer)))
            by None q e = e
            by (Some next) q e = behind_it next q (ltb next (length text)) e

pub ruleset whole_cases = (refl, tt, too_long, sharing_first, few_workers, few_requests, no_heading, request_bad, ended_so)
