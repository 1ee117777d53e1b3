-- The schedule ends the text, or the check ends with the line that is bad.
use Prim.Native.Nat.{ℕ, ◌+◌, ◌≤◌, ◌<◌}
use mathlib.Core.List.{List}
use mathlib.Core.Path.{◌≡◌, refl, sym, ◌∙◌}
use lib.ListN.{length}
use borrow.Author.Tests.{lt-ltb, le-ltb}
use Rattle.std.specs.Prelude.{Option, Result, None, Some, Ok}
use Rattle.script.specs.Turns.{schedule_at}
use Rattle.script.specs.Checks.{no_script, ending_at}
use Rattle.script.specs.declared.bad_line.BadLine.{BadLine}
use Rattle.script.specs.declared.headers.Heading.{Heading}
use Rattle.script.specs.declared.shares.Shares.{Shares}
use Rattle.script.specs.declared.checks.Checked.{Checked}

module _ (text : List ℕ) (h : Heading) (s : Shares) (o : Option ℕ) (e : o ≡ schedule_at h.workers h.turns text s.next) where
  pub end_bad : (r : Result Checked BadLine) → o ≡ None → r ≡ no_script (2 + h.total) → r ≡ ending_at text h s
  unfolding ending_at
  end_bad r q d = d ∙ rw (sym e ∙ q)

  module _ (next : ℕ) (q : o ≡ Some next) where
    pub end_more : (r : Result Checked BadLine) → next < length text → r ≡ no_script (3 + h.total) → r ≡ ending_at text h s
    unfolding ending_at
    end_more r l d = d ∙ rw (sym e ∙ q, lt-ltb next (length text) l)

    pub end_good : (r : Result Checked BadLine) → length text ≤ next
        → r ≡ Ok (record { workers = h.workers; shares = s.shares; schedule = s.next; turns = h.turns }) → r ≡ ending_at text h s
    unfolding ending_at
    end_good r l d = d ∙ rw (sym e ∙ q, le-ltb next (length text) l)

pub ruleset end_cases = (refl, tt, end_bad, end_more, end_good)
