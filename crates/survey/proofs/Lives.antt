-- An edge that a call found to be ADDED or live lies in its pool.
use Prim.Native.Nat.{ℕ, ◌<◌}
use mathlib.Core.Bool.{Bool, true}
use mathlib.Core.Path.{◌≡◌, sym, ◌∙◌}
use mathlib.Core.List.{List}
use Rattle.catalogue.specs.Numbers.{edge_pool}
use Rattle.catalogue.specs.Catalogue.{Catalogue}
use Rattle.catalogue.specs.Live.{is_added, is_live}
use Rattle.survey.specs.Walks.{linked}
use Rattle.laws.proofs.Ways.{flag, ways}
use Rattle.laws.proofs.Pools.{added_in, live_added}

live_in : (C : Catalogue) (e : ℕ) → is_live C e ≡ true → e < edge_pool
live_in C e h = added_in C e (live_added C e h)

-- a test that was called, with its answer known
module _ (words : List ℕ) (e : ℕ) (r : Bool) where
  pub added_in_pool : r ≡ is_added (linked words) e → r ≡ true → e < edge_pool
  added_in_pool q h = added_in (linked words) e (sym q ∙ h)

  pub live_in_pool : r ≡ is_live (linked words) e → r ≡ true → e < edge_pool
  live_in_pool q h = live_in (linked words) e (sym q ∙ h)

pub ruleset live_cases = (added_in_pool, flag, ways)
