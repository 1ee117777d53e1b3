-- The loop over the turns keeps what is left of the schedule: after each turn that others follow, one turn less.
use Prim.Native.Nat.{ℕ, suc, ◌+◌, ◌-◌, ◌≤◌, ◌<◌}
use mathlib.Core.Bool.{Bool, true, false}
use mathlib.Core.List.{List, [], ◌∷◌}
use mathlib.Core.Logic.{inl, inr}
use Rattle.std.specs.Prelude.{Option, None, Some}
use mathlib.Core.Path.{◌≡◌, refl, sym, ap, ◌∙◌}
use native.Mathlib.Omega.{arith}
use lib.Dec.{eqb, leb}
use borrow.Author.Tests.{eq-eqb, ne_eqb, lt-ltb, le-ltb, lt-leb, le-leb}
use Rattle.catalogue.specs.Tests.{pick}
use Rattle.digits.specs.Digits.{at_some, found}
use Rattle.digits.specs.declared.numbers.Parsed.{Parsed}
use Rattle.script.specs.Words.{number_at}
use Rattle.script.specs.Lines.{words_at}
use Rattle.script.specs.Turns.{as_after, scheduled, turns_at}
use Rattle.script.specs.declared.numbers.Item.{Item}
use Rattle.laws.proofs.Cases.{lt_or}
use Rattle.script.proofs.LineLaws.{words_none}
use Rattle.script.proofs.ScheduleWords.{with_first, turn_on, by_turns, scheduled_never}

after_first : (w : ℕ) (o : Option (Parsed (List ℕ))) → as_after (with_first w o) ≡ as_after o
after_first w None = refl
after_first w (Some r) = refl

module _ (workers : ℕ) (text : List ℕ) where
  abbrev by_turn : ℕ → Option (Item ℕ) → Option ℕ
  by_turn left r =
      at_some r None (λ n. pick (leb workers n.value) None (pick n.last (pick (eqb 0 left) (Some n.next) None) (turns_at workers left text n.next)))

  turn_step : workers ≤ 8 → (left at : ℕ) → turns_at workers (suc left) text at ≡ by_turn left (number_at text at)
  unfolding turns_at
  turn_step few left at = ap as_after (by_turns workers text left at few) ∙ by (number_at text at)
    where
      going : (w next : ℕ) (last : Bool) → as_after (pick last (pick (eqb 0 left) (found (w ∷ []) next) None) (with_first w (words_at (scheduled workers left) text next)))
          ≡ pick last (pick (eqb 0 left) (Some next) None) (turns_at workers left text next)
      going w next true = elim (eqb 0 left) as (λ t. as_after (pick t (found (w ∷ []) next) None) ≡ pick t (Some next) None) [ true ↦ refl | false ↦ refl ]
      going w next false = after_first w (words_at (scheduled workers left) text next)

      by : (r : Option (Item ℕ)) → as_after (at_some r None (turn_on workers text left)) ≡ by_turn left r
      by None = refl
      by (Some n) =
          elim (lt_or n.value workers) [
            | inl l ↦ rw (lt-ltb n.value workers l, lt-leb workers n.value l) (going n.value n.next n.last)
            | inr l ↦ rw (le-ltb n.value workers l, le-leb workers n.value l)
          ]

  -- some turns were read, and those left are what was asked for
  module _ (few : workers ≤ 8) (turns at place i : ℕ) (k : turns_at workers (turns - i) text place ≡ turns_at workers turns text at) where
    pub turning_end : turns ≤ i → None ≡ turns_at workers turns text at
    unfolding turns_at
    turning_end h =
        let z : turns - i ≡ 0 = omega arith in
        ap as_after (sym (words_none text place (scheduled workers 0) (scheduled_never workers))) ∙ ap (λ n. turns_at workers n text place) (sym z) ∙ k

    module _ (h : i < turns) (r : Option (Item ℕ)) (e : r ≡ number_at text place) where
      asked : turns_at workers turns text at ≡ by_turn (turns - (i + 1)) r
      asked =
          let a : turns - i ≡ suc (turns - (i + 1)) = omega arith in
          sym k ∙ ap (λ n. turns_at workers n text place) a ∙ turn_step few (turns - (i + 1)) place ∙ ap (by_turn (turns - (i + 1))) (sym e)

      pub turning_none : (o : Option ℕ) → r ≡ None → o ≡ None → o ≡ turns_at workers turns text at
      turning_none o q d = d ∙ sym (asked ∙ rw q)

      module _ (n : Item ℕ) (q : r ≡ Some n) where
        pub turning_off : workers ≤ n.value → None ≡ turns_at workers turns text at
        turning_off l = sym (asked ∙ rw (q, le-leb workers n.value l))

        module _ (l : n.value < workers) where
          pub turning_last : n.last ≡ true → i + 1 ≡ turns → Some n.next ≡ turns_at workers turns text at
          turning_last t z = sym (asked ∙ rw (q, lt-leb workers n.value l, t, eq-eqb 0 (turns - (i + 1)) (omega arith)))

          pub turning_early : n.last ≡ true → (i + 1 ≡ turns → ⊥) → None ≡ turns_at workers turns text at
          turning_early t z = sym (asked ∙ rw (q, lt-leb workers n.value l, t, ne_eqb 0 (turns - (i + 1)) (λ e. z (omega arith))))

          pub turning_on : n.last ≡ false → turns_at workers (turns - (i + 1)) text n.next ≡ turns_at workers turns text at
          turning_on t = sym (asked ∙ rw (q, lt-leb workers n.value l, t))

pub ruleset turn_steps = (refl, tt, turning_end, turning_none, turning_off, turning_last, turning_early, turning_on)
