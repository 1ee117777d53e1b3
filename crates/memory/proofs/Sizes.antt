-- What follows from the check of the stated sizes.
use Prim.Native.Nat.{ℕ}
use mathlib.Core.Bool.{Bool, true, false}
use mathlib.Core.List.{List}
use mathlib.Core.Path.{◌≡◌, refl}
use borrow.Author.Tests.{eqb-true, ne_eqb}
use lib.IntN.{ℤ}
use lib.ListN.{length}
use lib.Dec.{eqb}
use Rattle.std.proofs.Common.{Ok, Err}
use Rattle.catalogue.specs.Tests.{checked}
use Rattle.catalogue.specs.Lent.{Memory, Sized, keys_size, words_size, memory_of, sized}
use Rattle.catalogue.specs.declared.answers.Refusal.{Refusal}
use Rattle.catalogue.specs.declared.answers.Refusal.TheVariants as refusal
use Rattle.laws.proofs.Picks.{both_true, pick_both, passes, stops, stops_as}

pub sized_is : (m : Memory) → sized m ≡ true → Sized m.keys m.words
unfolding sized
sized_is m e =
    let h = both_true (eqb (length m.keys) keys_size) (eqb (length m.words) words_size) e in
    record { keyed = eqb-true _ _ h.0; worded = eqb-true _ _ h.1 }

-- words of another size are enough for a refusal
pub unworded : (m : Memory) → (length m.words ≡ words_size → ⊥) → sized m ≡ false
unfolding sized
unworded m h = pick_both (λ (t : Bool). t ≡ false) (eqb (length m.keys) keys_size) _ _ (λ e. ne_eqb _ _ h) (λ e. refl)

-- of the answer that the check gave
module _ (m : Memory) where
  pub size_passes : (u : Unit {0}) → Ok u ≡ checked (sized m) refusal.Room → sized m ≡ true
  size_passes = passes refusal.Room (sized m)

  pub size_stops : (why : Refusal) → Err why ≡ checked (sized m) refusal.Room → sized m ≡ false
  size_stops = stops refusal.Room (sized m)

  pub size_why : (why : Refusal) → Err why ≡ checked (sized m) refusal.Room → why ≡ refusal.Room
  size_why = stops_as refusal.Room (sized m)

module _ (keys : List ℤ) (words : List ℕ) (u : Unit {0}) (e : Ok u ≡ checked (sized (memory_of keys words)) refusal.Room) where
  pub sized_passed : Sized keys words
  sized_passed = sized_is (memory_of keys words) (size_passes (memory_of keys words) u e)

  pub keyed_passed : length keys ≡ keys_size
  keyed_passed = sized_passed.keyed

  pub worded_passed : length words ≡ words_size
  worded_passed = sized_passed.worded

-- of what a call goes on from
pub ruleset sizes = (size_passes, size_stops, size_why, sized_passed, keyed_passed, worded_passed)
