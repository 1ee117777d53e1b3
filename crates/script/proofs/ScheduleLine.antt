-- A schedule of some turns goes by its words. One of no turns is an empty line: the line's end stands at its
-- position.
use Prim.Native.Nat.{ℕ, suc, ◌+◌, ◌≤◌, ◌<◌}
use mathlib.Core.List.{List, [], ◌∷◌}
use mathlib.Core.Option.{none, some}
use mathlib.Core.Option as maybe
use Rattle.std.specs.Prelude.{Option, None, Some}
use mathlib.Core.Path.{◌≡◌, refl, sym, ap, ◌∙◌}
use native.Mathlib.Omega.{arith}
use lib.ListN.{length, get_or, drop, drop_of_length-le}
use lib.Seq.{drop-cons}
use borrow.Author.Tests.{eq-eqb, ne_eqb}
use Rattle.catalogue.specs.Script.{next_line, split, natural, read_schedule}
use Rattle.script.specs.Lines.{line_in, line_at, words_at}
use Rattle.script.specs.Turns.{as_after, schedule_at, scheduled, turns_at}
use Rattle.script.proofs.Tools.{all_pair}
use Rattle.script.proofs.LineLaws.{words_none, line_alike, before}
use Rattle.script.proofs.ScheduleWords.{tested, scheduled_never, scheduled_end}

words_or_none : (workers turns : ℕ) → 1 ≤ turns → (l : List ℕ) → read_schedule workers turns l ≡ scheduled workers turns (split l)
unfolding split
words_or_none workers turns h [] = scheduled_end workers turns ∙ rw (ne_eqb 0 turns (omega arith)) (sym (all_pair natural [] [] (tested workers turns)))
words_or_none workers turns h (b ∷ bs) = refl

module _ (workers turns : ℕ) (text : List ℕ) (at : ℕ) where
  pub schedule_by_words : 1 ≤ turns → line_at (read_schedule workers turns) text at ≡ words_at (scheduled workers turns) text at
  schedule_by_words h = line_alike (read_schedule workers turns) (λ l. scheduled workers turns (split l)) (words_or_none workers turns h) at (next_line (drop at text))

  pub schedule_turns : (r : Option ℕ) → r ≡ turns_at workers turns text at → 1 ≤ turns → r ≡ schedule_at workers turns text at
  unfolding schedule_at turns_at
  schedule_turns r e h = e ∙ ap as_after (sym (schedule_by_words h))

  pub schedule_none : length text ≤ at → None ≡ schedule_at workers turns text at
  unfolding schedule_at next_line
  schedule_none h = rw (drop_of_length-le text {i = at} h)

  module _ (h : at < length text) (z : turns < 1) where
    pub schedule_end : get_or text at 0 ≡ 10 → Some (at + 1) ≡ schedule_at workers turns text at
    unfolding schedule_at next_line
    schedule_end e =
        let t : turns ≡ 0 = omega arith in
        rw (t, drop-cons text at 0 h, next_line, eq-eqb (get_or text at 0) 10 e, scheduled_end workers 0)

    -- a line that is not empty goes by its words
    alike : (get_or text at 0 ≡ 10 → ⊥) → line_at (read_schedule workers 0) text at ≡ words_at (scheduled workers 0) text at
    unfolding next_line
    alike n = rw (drop-cons text at 0 h, next_line, ne_eqb (get_or text at 0) 10 n) (through (next_line (drop (suc at) text)))
      where
        through : (o : maybe.Option (List ℕ × List ℕ))
            → line_in (read_schedule workers 0) at (before (get_or text at 0) o) ≡ line_in (λ l. scheduled workers 0 (split l)) at (before (get_or text at 0) o)
        through none = refl
        through (some r) = refl

    pub schedule_more : (get_or text at 0 ≡ 10 → ⊥) → None ≡ schedule_at workers turns text at
    unfolding schedule_at
    schedule_more n =
        let t : turns ≡ 0 = omega arith in
        rw (t, alike n, words_none text at (scheduled workers 0) (scheduled_never workers))

pub ruleset schedule_cases = (schedule_turns, schedule_none, schedule_end, schedule_more)
