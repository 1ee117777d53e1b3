-- Runs that are computed: the promises speak of runs in which edges are added, and in which a loop is refused.
use Rattle.std.specs.Prelude.{ℕ, true, List, ◌∷◌, ◌++◌, ◌≡◌, refl, pos, replicate, Ok}
use Rattle.std.proofs.Common.{arith}
use Rattle.catalogue.specs.Calls.{step}
use Rattle.catalogue.specs.Choosing.{Choice, takes, steps, after}
use Rattle.catalogue.specs.Workers.{asks}
use Rattle.catalogue.specs.Examples.Rows.{found}
use Rattle.catalogue.specs.declared.answers.Answer.TheVariants.{Reply}
use Rattle.promises.specs.Moments.{at}
use Rattle.promises.specs.Graphs.{among, live}
use Rattle.promises.specs.Outside.{TrialEdge}

-- a request with both keys, and so many steps of worker 0
abbrev does : ℕ → ℕ → ℕ → ℕ → List Choice
does code k l n = takes 0 (asks code (pos k) (pos l)) ∷ replicate n (steps 0)

-- two series, the second derived from the first
abbrev derived_once : List Choice
derived_once = does 1 1 0 1 ++ (does 1 2 0 2 ++ does 4 1 2 7)

pub edge_added : (live (at 1 derived_once).catalogue).derived (pos 1) (pos 2) ≡ true
unfolding found after among
edge_added = refl

-- the other half of a loop, up to its last step
abbrev half : List Choice
half = derived_once ++ does 4 2 1 7

pub loop_refused : (step (at 1 half).catalogue (at 1 half).table 0).answer ≡ Ok (Reply 6)
unfolding found after
loop_refused = refl

-- until then its edge, node 2, is on trial in the list of the second series, vertex 3
pub half_on_trial : TrialEdge (at 1 half).catalogue 3 2
unfolding found after
half_on_trial = record { low = omega arith; high = omega arith; listed = refl; next = 0; link = refl }
