-- A header begins with the number of workers; the counts and the length of the schedule follow.
use Prim.Native.Nat.{ℕ, ◌≤◌}
use mathlib.Core.Bool.{Bool, true, false}
use mathlib.Core.List.{List, [], ◌∷◌}
use mathlib.Core.Logic.{inl, inr}
use mathlib.Core.Option.{none}
use mathlib.Core.Option as maybe
use Rattle.std.specs.Prelude.{Option, None, Some}
use mathlib.Core.Path.{◌≡◌, refl, sym, ap, ◌∙◌}
use native.Mathlib.Omega.{arith}
use lib.Dec.{ltb}
use lib.ListN.{drop}
use borrow.Author.Tests.{lt-ltb, le-ltb, leb-false}
use Rattle.catalogue.specs.Tests.{pick, given}
use Rattle.catalogue.specs.Script.{Header, next_line, split, all_of, natural, unsnoc, header_of, read_header}
use Rattle.digits.specs.Digits.{most_number, number_fits, at_some}
use Rattle.laws.proofs.Cases.{lt_or}
use Rattle.script.specs.Words.{item, number_at}
use Rattle.script.specs.Lines.{words_at}
use Rattle.script.specs.Headers.{Numbered, numbered, header_line, counting, counts_at}
use Rattle.script.specs.declared.numbers.Item.{Item}
use Rattle.script.proofs.Tools.{all_pair, all_end, fitting}
use Rattle.script.proofs.Taken.{taken}
use Rattle.script.proofs.LineLaws.{line_alike, words_none, Goes, read_on, by_number}
use Rattle.script.proofs.CountLaws.{outside, counts_cases}

abbrev heading : List (List ℕ) → maybe.Option Header
heading ws = given (all_of natural ws) none header_of

-- an empty line has one empty word, which is no number
words_or_none : (l : List ℕ) → read_header l ≡ heading (split l)
unfolding split all_of
words_or_none [] = refl
words_or_none (b ∷ bs) = refl

heading_goes : Goes natural number_fits heading (λ workers. counting workers [])
heading_goes w ws =
    all_pair natural w ws header_of
    ∙ fitting (natural w) (λ workers. counting workers [] ws) (λ n t. outside n (λ one few. omega (arith, leb-false n most_number t)) [] ws)

module _ (text : List ℕ) where
  abbrev by_workers : Option (Item ℕ) → Option Numbered
  by_workers r =
      at_some r None (λ n. pick n.last None (pick (ltb n.value 1) None (pick (ltb 8 n.value) None (counts_at n.value [] text n.next))))

  pub header_is : (o : Option Numbered) → o ≡ by_workers (number_at text 0) → o ≡ header_line text
  unfolding header_line counts_at unsnoc
  header_is o e =
      e ∙ sym (ap numbered
      (line_alike read_header (λ l. heading (split l)) words_or_none 0 (next_line (drop 0 text)) ∙ by_number text 0 heading (λ workers. counting workers []) heading_goes)
      ∙ by (number_at text 0))
    where
      no_workers : (workers next : ℕ) → (1 ≤ workers → workers ≤ 8 → ⊥) → words_at (counting workers []) text next ≡ None
      no_workers workers next off = words_none text next (counting workers []) (λ w ws. outside workers off [] (w ∷ ws))

      item_is : (workers next : ℕ) (last : Bool) → numbered (at_some (item workers next last) None (read_on text (λ workers. counting workers []))) ≡ by_workers (item workers next last)
      item_is workers next true = rw (all_end natural)
      item_is workers next false =
          elim (lt_or workers 1) [
            | inl l ↦ rw (lt-ltb workers 1 l, no_workers workers next (λ one few. omega arith))
            | inr l ↦ elim (lt_or 8 workers) [
              | inl g ↦ rw (le-ltb workers 1 l, lt-ltb 8 workers g, no_workers workers next (λ one few. omega arith))
              | inr g ↦ rw (le-ltb workers 1 l, le-ltb 8 workers g)
            ]
          ]

      by : (r : Option (Item ℕ)) → numbered (at_some r None (read_on text (λ workers. counting workers []))) ≡ by_workers r
      by None = refl
      by (Some n) = item_is n.value n.next n.last

pub ruleset header_cases = (taken, counts_cases, header_is)
