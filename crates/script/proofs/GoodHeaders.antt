-- A heading that was found good is the header of the text, and its numbers are within their bounds.
use Prim.Native.Nat.{ℕ, ◌≤◌}
use mathlib.Core.List.{List, [], ◌∷◌}
use mathlib.Core.Option.{none, some}
use mathlib.Core.Option as maybe
use Rattle.std.specs.Prelude.{Option, None, Some}
use mathlib.Core.Path.{◌≡◌, refl, sym, ap, ◌∙◌}
use native.Mathlib.Omega.{arith}
use lib.ListN.{length, take, drop}
use Rattle.catalogue.specs.Tests.{given}
use Rattle.catalogue.specs.Numbers.{most_workers}
use Rattle.catalogue.specs.Script.{Header, next_line, words, all_of, natural, header_of, read_header, sum, most_requests, most_turns}
use Rattle.laws.proofs.Picks.{clash}
use Rattle.digits.specs.Digits.{found}
use Rattle.digits.specs.declared.numbers.Parsed.{Parsed}
use Rattle.script.specs.Words.{behind}
use Rattle.script.specs.Lines.{line_in, line_at}
use Rattle.script.specs.Headers.{Numbered, header_parts, told, numbered, header_line}
use Rattle.script.specs.Shares.{Sharing}
use Rattle.script.specs.declared.headers.Heading.{Heading}
use Rattle.script.proofs.HeaderParts.{parts}

record Fitting (h : Header) : Type 0 where
  one : 1 ≤ length h.counts
  few : length h.counts ≤ most_workers
  most : sum h.counts ≤ most_requests
  timed : h.turns ≤ most_turns

fitting : (l : List ℕ) (h : Header) → read_header l ≡ some h → Fitting h
fitting l h e = by (all_of natural (words l)) e
  where
    numbers : (ns : List ℕ) → header_of ns ≡ some h → Fitting h
    numbers [] e = clash (cc)
    numbers (n ∷ ns) e = record {
      one = omega (arith, (parts n ns h e).counted, (parts n ns h e).one);
      few = omega (arith, (parts n ns h e).counted, (parts n ns h e).few);
      most = (parts n ns h e).summed;
      timed = (parts n ns h e).timed;
    }

    by : (o : maybe.Option (List ℕ)) → given o none header_of ≡ some h → Fitting h
    by none e = clash (cc)
    by (some ns) e = numbers ns e

line_fitting : (at : ℕ) (o : maybe.Option (List ℕ × List ℕ)) (r : Parsed Header) → line_in read_header at o ≡ Some r → Fitting r.value
line_fitting at none r e = clash (cc)
line_fitting at (some l) r e = by (read_header l.0) refl e
  where
    by : (o : maybe.Option Header) → read_header l.0 ≡ o → given o None (λ a. found a (behind at l.0)) ≡ Some r → Fitting r.value
    by none q e = clash (cc)
    by (some h) q e =
        let s : found h (behind at l.0) ≡ Some r = e in
        let p : h ≡ r.value = cc in
        fitting l.0 r.value (q ∙ ap some p)

-- what a good heading says of the text
pub record Headed (text : List ℕ) (h : Heading) : Type 0 where
  pub line : line_at read_header text 0 ≡ found (record { counts = take h.workers h.counts; turns = h.turns }) h.next
  pub counted : length (take h.workers h.counts) ≡ h.workers
  pub summed : sum (take h.workers h.counts) ≡ h.total
  pub one : 1 ≤ h.workers
  pub few : h.workers ≤ most_workers
  pub most : h.total ≤ most_requests
  pub timed : h.turns ≤ most_turns

module _ (text : List ℕ) (r : Option Heading) (e : told r ≡ header_line text) (h : Heading) (g : r ≡ Some h) where
  pub headed : Headed text h
  unfolding header_line
  headed = by (line_at read_header text 0) refl (rw g at e)
    where
      by : (o : Option (Parsed Header)) → line_at read_header text 0 ≡ o
          → Some (header_parts h.workers h.total h.counts h.turns h.next) ≡ numbered o → Headed text h
      by None q e = clash (cc)
      by (Some r) q e =
          let p : ◌≡◌ {A = Numbered} (header_parts h.workers h.total h.counts h.turns h.next) (length r.value.counts, (sum r.value.counts, r)) = cc in
          let c : ◌≡◌ {A = Parsed Header} (record { value = record { counts = take h.workers h.counts; turns = h.turns }; next = h.next }) r = ap (λ t. t.1.1) p in
          let w : h.workers ≡ length r.value.counts = ap (λ t. t.0) p in
          let m : h.total ≡ sum r.value.counts = ap (λ t. t.1.0) p in
          let d : take h.workers h.counts ≡ r.value.counts = ap (λ t. t.value.counts) c in
          let t : h.turns ≡ r.value.turns = ap (λ t. t.value.turns) c in
          let f : Fitting r.value = line_fitting 0 (next_line (drop 0 text)) r q in
          record {
            line = q ∙ ap Some (sym c);
            counted = ap length d ∙ sym w;
            summed = ap sum d ∙ sym m;
            one = omega (arith, f.one);
            few = omega (arith, f.few);
            most = omega (arith, f.most);
            timed = omega (arith, f.timed);
          }

  -- what the calls after the header ask
  pub sharing_first : length h.counts ≡ 8 → Sharing h.workers 0 2 h.counts
  sharing_first l = record {
    few = headed.few;
    within = omega arith;
    lines = omega (arith, headed.summed, headed.most);
    counts_long = l;
  }

  pub few_workers : h.workers ≤ 8
  few_workers = headed.few

  pub few_requests : h.total ≤ 1024
  few_requests = headed.most
