-- What the check of workers' numbers gives the checks after it.
use Prim.Native.Nat.{ℕ, ◌<◌}
use mathlib.Core.Bool.{true}
use mathlib.Core.Path.{◌≡◌}
use native.Mathlib.Omega.{arith}
use borrow.Author.Tests.{leb-true, ltb-true}
use lib.Dec.{leb, ltb}
use Rattle.catalogue.specs.Tests.{one_to}
use Rattle.catalogue.specs.Calls.{count_fits, worker_fits}
use Rattle.laws.proofs.Picks.{both_true}

pub worker_below : (count w : ℕ) → worker_fits count w ≡ true → w < 8
unfolding worker_fits count_fits
worker_below count w e =
    let h = both_true (one_to 8 count) (ltb w count) e in
    let g = both_true (leb 1 count) (leb count 8) h.0 in
    omega (arith, leb-true count 8 g.1, ltb-true w count h.1)
