-- The machine's choices over a whole run, and what holds before each of them.
-- Past the end of the list the host is refused, so nothing changes.
use Prim.Native.Nat.{ℕ, zero, suc}
use mathlib.Core.Bool.{false}
use mathlib.Core.List.{List, [], ◌∷◌}
use mathlib.Core.Logic.{◌⊎◌, inl, inr}
use mathlib.Core.Path.{◌≡◌, refl, sym, ap, ◌∙◌}
use native.Mathlib.Omega.{arith}
use borrow.Author.Tests.{le-ltb}
use lib.Dec.{ltb}
use lib.ListN.{get_or, take}
use Rattle.catalogue.specs.Calls.{worker_fits, count_fits, step}
use Rattle.catalogue.specs.Choosing.{Choice, steps, Moment, start, choose, after}
use Rattle.laws.proofs.Picks.{pick_both}
use Rattle.row.specs.Machine.Choices.{Conf, act, conf}
use Rattle.row.specs.Machine.Choices
use Rattle.promises.specs.Moments.{All, none, each, Keyed, Given, moment, chosen}
use Rattle.promises.specs.Histories.{taken_up, answered_by}
use Rattle.promises.proofs.Runs.Held.{Held}
use Rattle.promises.proofs.Runs.Fresh.{start_held}
use Rattle.promises.proofs.Runs.Telling.{Same}
use Rattle.promises.proofs.Runs.Next.{Next, next}

-- ---- the moments of a list, one after another

-- one member more is one choice more, or there is none
one_more : (m : Moment) (cs : List Choice) (n : ℕ) (d : Choice)
    → (after m (take (suc n) cs) ≡ (choose (after m (take n cs)) (get_or cs n d)).moment) ⊎ ((take (suc n) cs ≡ take n cs) × (get_or cs n d ≡ d))
unfolding after
one_more m [] zero d = inr (refl, refl)
one_more m [] (suc n) d = inr (refl, refl)
one_more m (c ∷ cs) zero d = inl refl
one_more m (c ∷ cs) (suc n) d =
    elim (one_more (choose m c).moment cs n d) [ inl e ↦ inl e | inr e ↦ inr (ap (λ (x : List Choice). c ∷ x) e.0, e.1) ]

-- a worker that is not there steps, and nothing changes
not_there : (n : ℕ) → worker_fits n n ≡ false
unfolding worker_fits
not_there n = pick_both (λ b. b ≡ false) (count_fits n) (ltb n n) false (λ e. le-ltb n n (omega arith)) (λ e. refl)

nobody_steps : (m : Moment) → (choose m (steps m.table.count)).moment ≡ m
unfolding step
nobody_steps m = rw (not_there m.table.count) refl

keyed_at : (workers : ℕ) (cs : List Choice) → All Keyed cs → (n : ℕ) → Keyed (get_or cs n (steps workers))
keyed_at workers [] none zero = tt
keyed_at workers [] none (suc n) = tt
keyed_at workers (c ∷ cs) (each k ks) zero = k
keyed_at workers (c ∷ cs) (each k ks) (suc n) = keyed_at workers cs ks n

-- The machine's choices over a run: what holds before each of them, and that each reports what the host's choice
-- does.
pub record Run (workers : ℕ) (choices : List Choice) : Type 0 where
  pub schedule : ℕ → Choices.Choice
  pub held : (n : ℕ) → Held workers (moment workers choices n) (conf schedule n)
  pub same : (n : ℕ)
      → Same (conf schedule n) (schedule n) (taken_up (moment workers choices n) (chosen workers choices n))
      (λ b. answered_by b (moment workers choices n) (chosen workers choices n))

module _ (workers : ℕ) (choices : List Choice) (given : Given workers choices) where
  abbrev at : ℕ → Moment
  at n = moment workers choices n

  abbrev does : ℕ → Choice
  does n = chosen workers choices n

  pub moment_next : (n : ℕ) → (at n).table.count ≡ workers → at (suc n) ≡ (choose (at n) (does n)).moment
  moment_next n w =
      elim (one_more (start workers) choices n (steps workers)) [
        | inl e ↦ e
        | inr e ↦ ap (after (start workers)) e.0 ∙ sym (ap (λ c. (choose (at n) c).moment) (e.1 ∙ ap steps (sym w)) ∙ nobody_steps (at n))
      ]

  -- where the machine stands after n choices
  record Stand (n : ℕ) : Type 0 where
    place : Conf
    held : Held workers (at n) place

  then : (n : ℕ) (z : Stand n) → Next workers (at n) z.place (does n)
  then n z = next workers given.most (at n) z.place z.held (does n) (keyed_at workers choices given.keyed n)

  held_first : Held workers (at 0) Choices.fresh
  unfolding after
  held_first = start_held workers

  held_next : (n : ℕ) (z : Stand n) → Held workers (at (suc n)) (act z.place (then n z).choice)
  held_next n z = rw (moment_next n z.held.counted) (then n z).held

  unfoldable stand : (n : ℕ) → Stand n
  stand zero = record { place = Choices.fresh; held = held_first }
  stand (suc n) = record { place = act (stand n).place (then n (stand n)).choice; held = held_next n (stand n) }

  abbrev made : ℕ → Choices.Choice
  made n = (then n (stand n)).choice

  stand_is : (n : ℕ) → conf made n ≡ (stand n).place
  unfolding conf stand
  stand_is zero = refl
  stand_is (suc n) = ap (λ X. act X (made n)) (stand_is n)

  pub run : Run workers choices
  run = record { schedule = made; held = λ n. rw (stand_is n) (stand n).held; same = λ n. rw (stand_is n) (then n (stand n)).same }
