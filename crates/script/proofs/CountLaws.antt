-- The words of a header, read one after the other.
-- Each number joins the counts before it, and the one after all counts ends the line.
use Prim.Native.Nat.{ℕ, ◌+◌, ◌-◌, ◌≤◌, ◌<◌}
use mathlib.Core.Bool.{Bool, true, false}
use mathlib.Core.List.{List, [], ◌∷◌, ◌++◌, append_assoc, append-nil}
use mathlib.Core.Logic.{inl, inr}
use mathlib.Core.Option.{none}
use Rattle.std.specs.Prelude.{Option, None, Some}
use mathlib.Core.Path.{◌≡◌, refl, sym, ap, ◌∙◌}
use native.Mathlib.Omega.{arith}
use native.Mathlib.Numerals.{add-one}
use lib.Dec.{ltb}
use lib.ListN.{length, set, take, replicate, length-set, length-append}
use lib.Seq.{length-take-le, take-suc, take-set-le, get_or-set_same}
use borrow.Author.Tests.{lt-ltb, le-ltb, leb-false}
use Rattle.catalogue.specs.Tests.{pick, given}
use Rattle.catalogue.specs.Script.{all_of, natural, header_of, most_requests, most_turns}
use Rattle.digits.specs.Digits.{most_number, number_fits, at_some, found}
use Rattle.digits.proofs.Values.{none_or}
use Rattle.laws.proofs.Cases.{lt_or}
use Rattle.script.specs.Words.{item, number_at}
use Rattle.script.specs.Lines.{words_at}
use Rattle.script.specs.Headers.{Numbered, told, numbered, header_parts, counting, counts_at, Counted}
use Rattle.script.specs.declared.numbers.Item.{Item}
use Rattle.script.specs.declared.headers.Heading.{Heading}
use Rattle.script.proofs.Tools.{none_if, given_none, all_pair, all_end, fitting}
use Rattle.script.proofs.LineLaws.{words_none, Goes, read_on, by_number}
use Rattle.script.proofs.HeaderParts.{sum_append, sum_pair, sum_none, parts, header_made, header_late, header_off, header_sum, header_large}

-- ---- one number of several

module _ (workers : ℕ) where
  never : (cs ws : _) → ((ns : List ℕ) → header_of (workers ∷ (cs ++ ns)) ≡ none) → counting workers cs ws ≡ none
  never cs ws none_of = given_none (all_of natural ws) (λ ns. header_of (workers ∷ (cs ++ ns))) none_of

  -- a number of workers that no script has
  pub outside : (1 ≤ workers → workers ≤ 8 → ⊥) → (cs : List ℕ) (ws : List (List ℕ)) → counting workers cs ws ≡ none
  outside off cs ws = never cs ws (λ ns. none_if (header_of (workers ∷ (cs ++ ns))) (λ h e. off (parts workers (cs ++ ns) h e).one (parts workers (cs ++ ns) h e).few))

  module _ (cs : List ℕ) where
    joined : (n : ℕ) (ws : List (List ℕ)) → ((ns : List ℕ) → header_of (workers ∷ (cs ++ (n ∷ ns))) ≡ none) → counting workers (cs ++ (n ∷ [])) ws ≡ none
    joined n ws none_of = never (cs ++ (n ∷ [])) ws (λ ns. rw (append_assoc cs (n ∷ []) ns) (none_of ns))

    goes : Goes natural number_fits (counting workers cs) (λ n. counting workers (cs ++ (n ∷ [])))
    goes w ws =
        all_pair natural w ws (λ ns. header_of (workers ∷ (cs ++ ns)))
        ∙ simp append_assoc
        (fitting (natural w) (λ n. given (all_of natural ws) none (λ ns. header_of (workers ∷ (cs ++ (n ∷ ns)))))
        (λ n t. given_none (all_of natural ws) (λ ns. header_of (workers ∷ (cs ++ (n ∷ ns)))) (λ ns. header_large workers cs n ns (omega (arith, leb-false n most_number t)))))

    -- words too many
    full : workers < length cs → (w : List ℕ) (ws : List (List ℕ)) → counting workers cs (w ∷ ws) ≡ none
    full l w ws =
        goes w ws ∙ given_none (natural w) (λ n. pick (number_fits n) (counting workers (cs ++ (n ∷ [])) ws) none)
        (λ n. none_or (number_fits n) (counting workers (cs ++ (n ∷ [])) ws) (joined n ws (λ ns. header_off workers cs n ns (omega arith))))

    last_of : (n : ℕ) → counting workers (cs ++ (n ∷ [])) [] ≡ header_of (workers ∷ (cs ++ (n ∷ [])))
    last_of n = rw (all_end natural, append-nil)

-- ---- the counts in an array

module _ (workers i total : ℕ) (counts : List ℕ) (k : Counted workers i total counts) where
  abbrev front : List ℕ
  front = take i counts

  long : length front ≡ i
  long = length-take-le i counts (omega (arith, k.within, k.few, k.long))

  longer : (n : ℕ) → i < workers → take (i + 1) (set counts i n) ≡ front ++ (n ∷ [])
  longer n l =
      let within : i < length counts = omega (arith, k.few, k.long) in
      rw (add-one, take-suc (set counts i n) i 0 (rw (length-set counts i n) within), take-set-le i counts i n (omega arith), get_or-set_same counts i n 0 within)

  pub counted_on : (n : ℕ) → i < workers → n ≤ most_requests - total → Counted workers (i + 1) (total + n) (set counts i n)
  counted_on n l m = record {
    one = k.one;
    few = k.few;
    within = omega arith;
    summed = rw (longer n l) (omega (arith, k.summed, sum_append front (n ∷ []), sum_pair n [], sum_none));
    most = omega (arith, k.most);
    long = length-set counts i n ∙ k.long;
  }

  module _ (text : List ℕ) (at : ℕ) where
    abbrev by_count : Option (Item ℕ) → Option Numbered
    by_count r =
        at_some r None (λ n. pick (ltb i workers)
        (pick n.last None (pick (ltb (most_requests - total) n.value) None (counts_at workers (take (i + 1) (set counts i n.value)) text n.next)))
        (pick n.last (pick (ltb most_turns n.value) None (Some (header_parts workers total counts n.value n.next))) None))

    counts_are : counts_at workers front text at ≡ by_count (number_at text at)
    unfolding counts_at
    counts_are = ap numbered (by_number text at (counting workers front) (λ n. counting workers (front ++ (n ∷ []))) (goes workers front)) ∙ by (number_at text at)
      where
        ending : (n next : ℕ) → numbered (given (header_of (workers ∷ (front ++ (n ∷ [])))) None (λ h. found h next)) ≡ by_count (item n next true)
        ending n next =
            elim (lt_or i workers) [
              | inl l ↦ rw (lt-ltb i workers l, header_off workers front n [] (omega (arith, long)))
              | inr l ↦ elim (lt_or most_turns n) [
                | inl g ↦ rw (le-ltb i workers l, lt-ltb most_turns n g, header_late workers front n g)
                | inr g ↦
                    let s : i ≡ workers = omega (arith, k.within) in
                    rw (le-ltb i workers l, le-ltb most_turns n g, header_made workers front n k.one k.few (long ∙ s) (omega (arith, k.summed, k.most)) g, long, sym k.summed, s)
              ]
            ]

        going : (n next : ℕ) → numbered (words_at (counting workers (front ++ (n ∷ []))) text next) ≡ by_count (item n next false)
        going n next =
            elim (lt_or i workers) [
              | inl l ↦ elim (lt_or (most_requests - total) n) [
                | inl g ↦ rw (
                  lt-ltb i workers l,
                  lt-ltb (most_requests - total) n g,
                  words_none text next (counting workers (front ++ (n ∷ []))) (λ w ws. joined workers front n (w ∷ ws) (λ ns. header_sum workers front n ns (omega (arith, long)) (omega (arith, k.summed, k.most)))),
                )
                | inr g ↦ rw (lt-ltb i workers l, le-ltb (most_requests - total) n g, longer n l)
              ]
              | inr l ↦ rw (le-ltb i workers l, words_none text next (counting workers (front ++ (n ∷ []))) (full workers (front ++ (n ∷ [])) (omega (arith, long, length-append front (n ∷ [])))))
            ]

        item_is : (n next : ℕ) (last : Bool) → numbered (at_some (item n next last) None (read_on text (λ n. counting workers (front ++ (n ∷ []))))) ≡ by_count (item n next last)
        item_is n next true = rw (last_of workers front n) (ending n next)
        item_is n next false = going n next

        by : (r : Option (Item ℕ)) → numbered (at_some r None (read_on text (λ n. counting workers (front ++ (n ∷ []))))) ≡ by_count r
        by None = refl
        by (Some n) = item_is n.value n.next n.last

-- some counts are read, and what is left of the line is what was asked for
pub record Counting (text : List ℕ) (workers at i total place : ℕ) (counts : List ℕ) : Type 0 where
  pub counted : Counted workers i total counts
  pub same : counts_at workers (take i counts) text place ≡ counts_at workers [] text at

pub counting_none : (text : List ℕ) (workers at : ℕ) → 1 ≤ workers → workers ≤ 8 → Counting text workers at 0 0 at (replicate 8 0)
counting_none text workers at one few = record {
  counted = record { one = one; few = few; within = omega arith; summed = sym sum_none; most = omega arith; long = refl };
  same = refl;
}

module _ (text : List ℕ) (workers at i total place : ℕ) (counts : List ℕ) (c : Counting text workers at i total place counts) where
  k : Counted workers i total counts
  k = c.counted

  asked : counts_at workers [] text at ≡ by_count workers i total counts k text place (number_at text place)
  asked = sym c.same ∙ counts_are workers i total counts k text place

  module _ (r : Option (Item ℕ)) (e : r ≡ number_at text place) where
    pub count_bad : (o : Option Heading) → r ≡ None → o ≡ None → told o ≡ counts_at workers [] text at
    count_bad o q d = rw d (sym (asked ∙ rw (sym e, q)))

    module _ (n : Item ℕ) (q : r ≡ Some n) where
      read : number_at text place ≡ Some n
      read = sym e ∙ q

      module _ (h : i < workers) where
        pub count_last : n.last ≡ true → told None ≡ counts_at workers [] text at
        count_last l = sym (asked ∙ rw (read, lt-ltb i workers h, l))

        pub count_large : n.last ≡ false → most_requests - total < n.value → told None ≡ counts_at workers [] text at
        count_large l g = sym (asked ∙ rw (read, lt-ltb i workers h, l, lt-ltb (most_requests - total) n.value g))

        pub counting_on : n.last ≡ false → n.value ≤ most_requests - total → Counting text workers at (i + 1) (total + n.value) n.next (set counts i n.value)
        counting_on l g = record {
          counted = counted_on workers i total counts k n.value h g;
          same = sym (asked ∙ rw (read, lt-ltb i workers h, l, le-ltb (most_requests - total) n.value g));
        }

      module _ (h : workers ≤ i) where
        pub count_more : n.last ≡ false → told None ≡ counts_at workers [] text at
        count_more l = sym (asked ∙ rw (read, le-ltb i workers h, l))

        pub count_late : n.last ≡ true → most_turns < n.value → told None ≡ counts_at workers [] text at
        count_late l g = sym (asked ∙ rw (read, le-ltb i workers h, l, lt-ltb most_turns n.value g))

        pub count_end : n.last ≡ true → n.value ≤ most_turns → Some (header_parts workers total counts n.value n.next) ≡ counts_at workers [] text at
        count_end l g = sym (asked ∙ rw (read, le-ltb i workers h, l, le-ltb most_turns n.value g))

pub ruleset counts_cases = (refl, tt, counting_none, counting_on, count_bad, count_last, count_large, count_more, count_late, count_end)
