-- The ways through an idle worker's turn on lent memory, and the sizes as the check found them.
use Prim.Native.Nat.{ℕ, ◌-◌}
use mathlib.Core.Bool.{true}
use mathlib.Core.List.{List}
use mathlib.Core.Path.{◌≡◌, refl, sym, ap, ◌∙◌}
use borrow.Author.Tests.{eq-eqb, ne_eqb}
use lib.IntN.{ℤ}
use lib.ListN.{set}
use Rattle.catalogue.specs.Lent.{Memory, Sized, sized, memory_of, lent_take_up}
use Rattle.catalogue.specs.declared.answers.Outcome.{Outcome}
use Rattle.catalogue.specs.declared.workers.Request.{Request}
use Rattle.catalogue.specs.declared.workers.Table.{Table}
use Rattle.script.specs.Lines.{request_at}
use Rattle.script.specs.Shares.{share}
use Rattle.script.specs.Checks.{share_of}
use Rattle.std.specs.Prelude.{Option, None, Some}
use Rattle.digits.specs.declared.numbers.Parsed.{Parsed}
use Rattle.run.specs.Turns.{taken_next}
use Rattle.run.specs.declared.states.State.{State}

-- sizes as the check found them
pub is_sized : (keys : List ℤ) (words : List ℕ) → Sized keys words → sized (memory_of keys words) ≡ true
unfolding sized
is_sized keys words s = rw (s.keyed, s.worded) refl

-- ---- the next request

module _ (text : List ℕ) (m : Memory) (s : State) (w : ℕ) where
  pub none_left : (share_of s.left w).count ≡ 0 → s ≡ taken_next text m s w
  unfolding taken_next
  none_left e = rw (eq-eqb _ _ e) refl

  module _ (some : (share_of s.left w).count ≡ 0 → ⊥) (l : Option (Parsed Request)) (e : l ≡ request_at text (share_of s.left w).start) where
    pub bad_line : l ≡ None → s ≡ taken_next text m s w
    unfolding taken_next
    bad_line q = rw (ne_eqb _ _ some, sym e ∙ q) refl

    pub taken_line : (p : Parsed Request) → l ≡ Some p → (o : Outcome) → o ≡ (lent_take_up m s.table w p.value).outcome
        → ◌≡◌ {A = State} (record { table = o.table; left = set s.left w (share p.next ((share_of s.left w).count - 1)); replies = s.replies; end = s.end }) (taken_next text m s w)
    unfolding taken_next
    taken_line p f o g =
        rw (ne_eqb _ _ some, sym e ∙ f)
        (ap (λ (t : Table). record { table = t; left = set s.left w (share p.next ((share_of s.left w).count - 1)); replies = s.replies; end = s.end })
        (ap (λ (o : Outcome). o.table) g))

pub ruleset taking = (none_left, bad_line, taken_line)
