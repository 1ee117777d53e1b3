-- A count goes up by the number of the reply.
use Rattle.std.proofs.Common.{◌≡◌, ℕ, ne_eqb}
use Rattle.asking.specs.Tallies.{plus, counted}
use Rattle.asking.specs.declared.perform.Performed.{Performed}
use Rattle.asking.specs.declared.tally.Tally.{Tally}

module _ (t : Tally) (p : Performed) (steps more : ℕ) (s : steps ≡ plus t.steps p.steps) where
  pub one_done : p.number ≡ 1 → more ≡ plus t.done 1 → record { done = more; no_room = t.no_room; other = t.other; steps = steps } ≡ counted t p
  unfolding counted
  one_done e m = rw (e, m, s)

  pub one_full : p.number ≡ 9 → more ≡ plus t.no_room 1 → record { done = t.done; no_room = more; other = t.other; steps = steps } ≡ counted t p
  unfolding counted
  one_full e m = rw (e, m, s)

  pub one_other : (p.number ≡ 1 → ⊥) → (p.number ≡ 9 → ⊥) → more ≡ plus t.other 1 → record { done = t.done; no_room = t.no_room; other = more; steps = steps } ≡ counted t p
  unfolding counted
  one_other f g m = rw (ne_eqb p.number 1 f, ne_eqb p.number 9 g, m, s)

pub ruleset tally_cases = (one_done, one_full, one_other)
