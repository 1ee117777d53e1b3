-- A schedule of some turns is one number and the schedule of the turns left. After the last one the line ends.
use Prim.Native.Nat.{ℕ, suc, ◌+◌, ◌≤◌}
use mathlib.Core.Bool.{Bool, true, false}
use mathlib.Core.List.{List, [], ◌∷◌}
use mathlib.Core.Logic.{inl, inr}
use mathlib.Core.Option.{none, some}
use mathlib.Core.Option as maybe
use Rattle.std.specs.Prelude.{Option, None, Some}
use mathlib.Core.Path.{◌≡◌, refl, sym, ap, ◌∙◌}
use native.Mathlib.Omega.{arith}
use lib.Dec.{eqb, ltb}
use lib.ListN.{length, drop}
use borrow.Author.Tests.{eq-eqb, ne_eqb, le-ltb, leb-false}
use Rattle.catalogue.specs.Tests.{pick, given, every}
use Rattle.catalogue.specs.Script.{next_line, split, all_of, natural}
use Rattle.digits.specs.Digits.{most_number, number_fits, at_some, found}
use Rattle.digits.specs.declared.numbers.Parsed.{Parsed}
use Rattle.digits.proofs.Values.{none_or}
use Rattle.script.specs.Words.{item, number_at}
use Rattle.script.specs.Lines.{line_in, words_at}
use Rattle.script.specs.Turns.{scheduled}
use Rattle.script.specs.declared.numbers.Item.{Item}
use Rattle.laws.proofs.Cases.{same?}
use Rattle.script.proofs.Tools.{given_none, every_none, every_pair, all_end, all_pair, fitting}
use Rattle.script.proofs.LineLaws.{words_pick, Goes, read_on, by_number}

-- ---- one number of several

abbrev under : ℕ → ℕ → Bool
under workers w = ltb w workers

abbrev with_turn : ℕ → maybe.Option (List ℕ) → maybe.Option (List ℕ)
with_turn w o = given o none (λ ns. some (w ∷ ns))

-- numbers as a schedule
abbrev pub tested : ℕ → ℕ → List ℕ → maybe.Option (List ℕ)
tested workers turns ns = pick (eqb (length ns) turns) (pick (every (under workers) ns) (some ns) none) none

module _ (workers : ℕ) where
  pub tested_none : (w : ℕ) (ns : List ℕ) → tested workers 0 (w ∷ ns) ≡ none
  tested_none w ns = rw (ne_eqb (length (w ∷ ns)) 0 (omega arith))

  tested_pair : (turns w : ℕ) (ns : List ℕ) → tested workers (suc turns) (w ∷ ns) ≡ pick (ltb w workers) (with_turn w (tested workers turns ns)) none
  tested_pair turns w ns =
      elim (same? (length ns) turns) [
        | inl e ↦ rw (eq-eqb (length (w ∷ ns)) (suc turns) (ap suc e), eq-eqb (length ns) turns e, every_pair (under workers) w ns) (by (ltb w workers) (every (under workers) ns))
        | inr n ↦ rw (ne_eqb (length (w ∷ ns)) (suc turns) (omega arith), ne_eqb (length ns) turns n) (sym (none_or (ltb w workers) none refl))
      ]
    where
      by : (s t : Bool) → pick (pick s t false) (some (w ∷ ns)) none ≡ pick s (with_turn w (pick t (some ns) none)) none
      by true true = refl
      by true false = refl
      by false t = refl

  abbrev turned : ℕ → ℕ → List (List ℕ) → maybe.Option (List ℕ)
  turned turns w ws = pick (ltb w workers) (with_turn w (scheduled workers turns ws)) none

  goes : (turns : ℕ) → workers ≤ 8 → Goes natural number_fits (scheduled workers (suc turns)) (turned turns)
  goes turns few w ws = all_pair natural w ws (tested workers (suc turns)) ∙ by (natural w) (all_of natural ws) ∙ fitting (natural w) (λ n. turned turns n ws) large
    where
      by : (o : maybe.Option ℕ) (os : maybe.Option (List ℕ)) → given o none (λ n. given os none (λ ns. tested workers (suc turns) (n ∷ ns)))
          ≡ given o none (λ n. pick (ltb n workers) (with_turn n (given os none (tested workers turns))) none)
      by none os = refl
      by (some n) none = sym (none_or (ltb n workers) none refl)
      by (some n) (some ns) = tested_pair turns n ns

      large : (n : ℕ) → number_fits n ≡ false → turned turns n ws ≡ none
      large n t = rw (le-ltb n workers (omega (arith, leb-false n most_number t)))

  pub scheduled_end : (turns : ℕ) → scheduled workers turns [] ≡ pick (eqb 0 turns) (some []) none
  scheduled_end turns = rw (all_end natural, every_none (under workers))

  -- a schedule of no turns has no words
  pub scheduled_never : (w : List ℕ) (ws : List (List ℕ)) → scheduled workers 0 (w ∷ ws) ≡ none
  scheduled_never w ws =
      all_pair natural w ws (tested workers 0)
      ∙ given_none (natural w) (λ n. given (all_of natural ws) none (λ ns. tested workers 0 (n ∷ ns)))
      (λ n. given_none (all_of natural ws) (λ ns. tested workers 0 (n ∷ ns)) (λ ns. tested_none n ns))

-- ---- the number at a position decides

abbrev pub with_first : ℕ → Option (Parsed (List ℕ)) → Option (Parsed (List ℕ))
with_first w o = at_some o None (λ r. found (w ∷ r.value) r.next)

line_with : (w : ℕ) (kind : List ℕ → maybe.Option (List ℕ)) (at : ℕ) (o : maybe.Option (List ℕ × List ℕ)) → line_in (λ l. with_turn w (kind l)) at o ≡ with_first w (line_in kind at o)
line_with w kind at none = refl
line_with w kind at (some r) = by (kind r.0)
  where
    by : (o : maybe.Option (List ℕ)) → given (with_turn w o) None (λ a. found a (at + suc (length r.0))) ≡ with_first w (given o None (λ a. found a (at + suc (length r.0))))
    by none = refl
    by (some ns) = refl

abbrev pub turn_on : ℕ → List ℕ → ℕ → Item ℕ → Option (Parsed (List ℕ))
turn_on workers text left n =
    pick (ltb n.value workers) (pick n.last (pick (eqb 0 left) (found (n.value ∷ []) n.next) None) (with_first n.value (words_at (scheduled workers left) text n.next))) None

pub by_turns : (workers : ℕ) (text : List ℕ) (left at : ℕ) → workers ≤ 8
    → words_at (scheduled workers (suc left)) text at ≡ at_some (number_at text at) None (turn_on workers text left)
by_turns workers text left at few = by_number text at (scheduled workers (suc left)) (turned workers left) (goes workers left few) ∙ by (number_at text at)
  where
    ended : (w next : ℕ) (s t : Bool) → given (pick s (with_turn w (pick t (some []) none)) none) None (λ a. found a next) ≡ pick s (pick t (found (w ∷ []) next) None) None
    ended w next true true = refl
    ended w next true false = refl
    ended w next false t = refl

    item_is : (w next : ℕ) (last : Bool) → at_some (item w next last) None (read_on text (turned workers left)) ≡ at_some (item w next last) None (turn_on workers text left)
    item_is w next true = rw (scheduled_end workers left) (ended w next (ltb w workers) (eqb 0 left))
    item_is w next false =
        words_pick text next (ltb w workers) (λ ws. with_turn w (scheduled workers left ws))
        ∙ rw (line_with w (λ l. scheduled workers left (split l)) next (next_line (drop next text)))

    by : (r : Option (Item ℕ)) → at_some r None (read_on text (turned workers left)) ≡ at_some r None (turn_on workers text left)
    by None = refl
    by (Some n) = item_is n.value n.next n.last
