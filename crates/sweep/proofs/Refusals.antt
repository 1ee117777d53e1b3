-- The memory after a sweep, by the checks on the way.
-- Each refusal is the case of the definition that its checks choose, and changes nothing.
use Prim.Native.Nat.{ℕ, ◌≤◌}
use mathlib.Core.Bool.{Bool, true}
use mathlib.Core.List.{List}
use mathlib.Core.Path.{◌≡◌, sym, ◌∙◌}
use borrow.Author.Tests.{leb-true}
use lib.IntN.{ℤ}
use lib.Dec.{leb}
use Rattle.catalogue.specs.Tests.{one_to}
use Rattle.catalogue.specs.Catalogue.{Catalogue}
use Rattle.catalogue.specs.Soundness.{sound, sweep}
use Rattle.catalogue.specs.Lent.{Sized, memory_of, catalogue_in, lay}
use Rattle.laws.proofs.Picks.{both_true}
use Rattle.memory.proofs.Laid.{view_held}
use Rattle.sweep.proofs.NodeLaws.{laid}

-- what the checks give
pub count_low : (n : ℕ) (r : Bool) → r ≡ one_to 8 n → r ≡ true → n ≤ 8
count_low n r e q = leb-true n 8 (both_true (leb 1 n) (leb n 8) (sym e ∙ q)).1

pub sound_flag : (C : Catalogue) (r : Bool) → r ≡ sound sweep C → r ≡ true → sound sweep C ≡ true
sound_flag C r e q = sym e ∙ q

-- memory that a refusal leaves is that of its catalogue
pub left : (keys : List ℤ) (words : List ℕ) → Sized keys words → memory_of keys words ≡ lay (catalogue_in keys words)
left keys words z = laid keys words (catalogue_in keys words) (view_held keys words z.keyed z.worded)

pub ruleset into_cases = (count_low, sound_flag, left)
