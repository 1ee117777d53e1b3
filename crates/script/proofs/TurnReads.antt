-- The numbers of a schedule are the turns that are read one after the other from where its line begins.
-- All are numbers of workers.
use Prim.Native.Nat.{ℕ, zero, suc, ◌≤◌}
use mathlib.Core.Bool.{Bool, true, false}
use mathlib.Core.List.{List, [], ◌∷◌}
use mathlib.Core.Option.{none, some}
use mathlib.Core.Option as maybe
use Rattle.std.specs.Prelude.{Option, None, Some}
use mathlib.Core.Path.{◌≡◌, refl, sym, ap, ◌∙◌, subst}
use native.Mathlib.Omega.{arith}
use lib.Dec.{eqb, ltb}
use lib.ListN.{drop}
use borrow.Author.Tests.{eqb-true}
use Rattle.catalogue.specs.Tests.{given, every}
use Rattle.digits.specs.Digits.{at_some, found}
use Rattle.digits.specs.declared.numbers.Parsed.{Parsed}
use Rattle.catalogue.specs.Script.{next_line, words, all_of, natural, read_schedule}
use Rattle.laws.proofs.Picks.{clash}
use Rattle.script.specs.Words.{behind, item, number_at}
use Rattle.script.specs.Lines.{line_in, line_at, words_at}
use Rattle.script.specs.Turns.{as_after, schedule_at, scheduled}
use Rattle.script.specs.Checks.{turns_from}
use Rattle.script.specs.declared.numbers.Item.{Item}
use Rattle.script.proofs.Cursors.{turns_none, turns_one}
use Rattle.script.proofs.Tools.{pick_taken, every_none, every_pair}
use Rattle.script.proofs.LineLaws.{words_none}
use Rattle.script.proofs.ScheduleWords.{tested, tested_none, with_first, turn_on, by_turns, scheduled_never}
use Rattle.script.proofs.ScheduleLine.{schedule_by_words}

module _ (workers : ℕ) (text : List ℕ) where
  -- the turns from a position on
  pub record Turned (turns at : ℕ) (ns : List ℕ) : Type 0 where
    pub same : ns ≡ turns_from text turns at
    pub manned : every (λ w. ltb w workers) ns ≡ true

  turned_none : (at : ℕ) → Turned 0 at []
  turned_none at = record { same = sym (turns_none text at); manned = every_none (λ w. ltb w workers) }

  module _ (turns at w next : ℕ) (last : Bool) (q : number_at text at ≡ item w next last) where
    turned_one : (ns : List ℕ) → ltb w workers ≡ true → Turned turns next ns → Turned (suc turns) at (w ∷ ns)
    turned_one ns t k = record {
      same = ap (λ l. w ∷ l) k.same ∙ sym (turns_one text turns at w next last q);
      manned = every_pair (λ w. ltb w workers) w ns ∙ rw t k.manned;
    }

  module _ (few : workers ≤ 8) where
    by_words : (turns at : ℕ) (r : Parsed (List ℕ)) → words_at (scheduled workers turns) text at ≡ Some r → Turned turns at r.value
    by_words zero at r e = clash (cc (words_none text at (scheduled workers 0) (scheduled_never workers)))
    by_words (suc turns) at r e = by (number_at text at) refl (by_words turns) (sym (by_turns workers text turns at few) ∙ e)
      where
        more : (w next : ℕ) → number_at text at ≡ item w next false → ltb w workers ≡ true → (o : Option (Parsed (List ℕ)))
            → ((s : Parsed (List ℕ)) → o ≡ Some s → Turned turns next s.value) → with_first w o ≡ Some r → Turned (suc turns) at r.value
        more w next q t None rest e = clash (cc)
        more w next q t (Some s) rest e =
            let f : found (w ∷ s.value) s.next ≡ Some r = e in
            let p : w ∷ s.value ≡ r.value = cc in
            subst (Turned (suc turns) at) p (turned_one turns at w next false q s.value t (rest s refl))

        ends : (w next : ℕ) → number_at text at ≡ item w next true → ltb w workers ≡ true → 0 ≡ turns → found (w ∷ []) next ≡ Some r → Turned (suc turns) at r.value
        ends w next q t z f =
            let p : w ∷ [] ≡ r.value = cc in
            subst (Turned (suc turns) at) p (turned_one turns at w next true q [] t (subst (λ n. Turned n next []) z (turned_none next)))

        item_is : (w next : ℕ) (last : Bool) → number_at text at ≡ item w next last
            → ((at : ℕ) (s : Parsed (List ℕ)) → words_at (scheduled workers turns) text at ≡ Some s → Turned turns at s.value)
            → at_some (item w next last) None (turn_on workers text turns) ≡ Some r → Turned (suc turns) at r.value
        item_is w next true q rest e =
            let p = pick_taken (ltb w workers) _ r e in
            let s = pick_taken (eqb 0 turns) (found (w ∷ []) next) r p.1 in
            ends w next q p.0 (eqb-true 0 turns s.0) s.1
        item_is w next false q rest e =
            let p = pick_taken (ltb w workers) _ r e in
            more w next q p.0 (words_at (scheduled workers turns) text next) (rest next) p.1

        by : (m : Option (Item ℕ)) → number_at text at ≡ m → ((at : ℕ) (s : Parsed (List ℕ)) → words_at (scheduled workers turns) text at ≡ Some s → Turned turns at s.value)
            → at_some m None (turn_on workers text turns) ≡ Some r → Turned (suc turns) at r.value
        by None q rest e = clash (cc)
        by (Some n) q rest e = item_is n.value n.next n.last q rest e

    pub turns_read : (turns at : ℕ) (r : Parsed (List ℕ)) → line_at (read_schedule workers turns) text at ≡ Some r → Turned turns at r.value
    turns_read zero at r e = line (next_line (drop at text)) e
      where
        numbers : (next : ℕ) (ns : List ℕ) → given (tested workers 0 ns) None (λ a. found a next) ≡ Some r → Turned 0 at r.value
        numbers next [] e =
            let f : found [] next ≡ Some r = cc (every_none (λ w. ltb w workers)) in
            let p : [] ≡ r.value = cc in
            subst (Turned 0 at) p (turned_none at)
        numbers next (m ∷ ms) e = clash (cc (tested_none workers m ms))

        kind : (next : ℕ) (o : maybe.Option (List ℕ)) → given (given o none (tested workers 0)) None (λ a. found a next) ≡ Some r → Turned 0 at r.value
        kind next none e = clash (cc)
        kind next (some ns) e = numbers next ns e

        line : (o : maybe.Option (List ℕ × List ℕ)) → line_in (read_schedule workers 0) at o ≡ Some r → Turned 0 at r.value
        line none e = clash (cc)
        line (some l) e = kind (behind at l.0) (all_of natural (words l.0)) e
    turns_read (suc turns) at r e = by_words (suc turns) at r (sym (schedule_by_words workers (suc turns) text at (omega arith)) ∙ e)

    pub turns_manned : (turns at next : ℕ) → schedule_at workers turns text at ≡ Some next → every (λ w. ltb w workers) (turns_from text turns at) ≡ true
    unfolding schedule_at
    turns_manned turns at next e = by (line_at (read_schedule workers turns) text at) (turns_read turns at) e
      where
        by : (o : Option (Parsed (List ℕ))) → ((r : Parsed (List ℕ)) → o ≡ Some r → Turned turns at r.value) → as_after o ≡ Some next → every (λ w. ltb w workers) (turns_from text turns at) ≡ true
        by None reads e = clash (cc)
        by (Some r) reads e = ap (every (λ w. ltb w workers)) (sym (reads r refl).same) ∙ (reads r refl).manned
