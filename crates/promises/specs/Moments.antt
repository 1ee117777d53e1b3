-- The moments of a run: what the host may choose, and what the catalogue and the workers are after it.
use Rattle.std.specs.Prelude.{ℕ, ◌≤◌, false, List, ◌≡◌, ℤ, get_or, take}
use Rattle.std.specs.Int.Signed.{lt_z}
use Rattle.catalogue.specs.Numbers.{least, greatest}
use Rattle.catalogue.specs.Workers.{worker_at}
use Rattle.catalogue.specs.declared.workers.Place.{Place}
use Rattle.catalogue.specs.declared.workers.Request.{Request}
use Rattle.catalogue.specs.Choosing.{Choice, takes, steps, sweeps, Moment, start, after}
-- every member of a list
pub use Rattle.row.specs.Rows.Row.{All, nil as none, also as each}

-- A key is a number of 32 bits.
pub record Key (k : ℤ) : Type 0 where
  pub low : lt_z k least ≡ false
  pub high : lt_z greatest k ≡ false

-- Both keys of a request are keys.
pub record Fitting (q : Request) : Type 0 where
  pub first : Key q.pair.k
  pub second : Key q.pair.l

abbrev pub Keyed : Choice → Type 0
Keyed (takes w q) = Fitting q
Keyed (steps w) = Unit {0}
Keyed sweeps = Unit {0}

-- What the calls ask: at most eight workers, and keys of 32 bits, which their types have anyway.
pub record Given (workers : ℕ) (choices : List Choice) : Type 0 where
  pub most : workers ≤ 8
  pub keyed : All Keyed choices

-- The moment after a list of choices, from the fresh catalogue and with all workers idle.
abbrev pub at : ℕ → List Choice → Moment
at workers choices = after (start workers) choices

-- The moment after the first n of them, and the choice that is made then;
-- past the last one a worker that is not there is asked to step.
abbrev pub moment : ℕ → List Choice → ℕ → Moment
moment workers choices n = at workers (take n choices)

abbrev pub chosen : ℕ → List Choice → ℕ → Choice
chosen workers choices n = get_or choices n (steps workers)

-- Where a worker stands.
abbrev pub place_of : Moment → ℕ → Place
place_of m w = (worker_at m.table w).place
