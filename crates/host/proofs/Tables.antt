-- A table as it is written down: the ways out of making one of idle workers.
use Prim.Native.Nat.{ℕ}
use mathlib.Core.Bool.{true}
use mathlib.Core.Path.{◌≡◌, ◌∙◌, ap}
use lib.ListN.{replicate}
use Rattle.std.proofs.Common.{Ok}
use Rattle.catalogue.specs.Tests.{one_to}
use Rattle.catalogue.specs.Workers.{idle, idle_table}
use Rattle.catalogue.specs.Calls.{count_fits}
use Rattle.catalogue.specs.declared.workers.Worker.{Worker}
use Rattle.border.specs.Kept.{table_in, idle_kept}
use Rattle.border.specs.Packing.{packed_made}
use Rattle.border.specs.declared.kept.Kept.{Kept}
use Rattle.border.proofs.Places.{worker_back}
use Rattle.host.specs.Promised.{MakesTable}

-- it stands for a table of idle workers
idle_in : (count : ℕ) → table_in (idle_kept count) ≡ idle_table count
idle_in count = ap (λ (w : Worker). record { count = count; workers = replicate 8 w }) (worker_back idle)

module _ (t : Kept) (count : ℕ) (e : one_to 8 count ≡ true) (t' : Kept) (told : ℕ) where
  pub table_made : t' ≡ idle_kept count → told ≡ packed_made (Ok tt) → MakesTable t count told t'
  unfolding count_fits
  table_made f g = rw e (g, (f, ap table_in f ∙ idle_in count))
