-- Document 01, "Numbers", paragraph 3: a worker's record, its met set and its queue; the table.
use Rattle.std.specs.Prelude.{ℕ, zero, suc, ◌+◌, ◌/◌, ◌%◌, ◌^◌, Bool, true, false, List, [], ℤ, pos, get_or, set, replicate, eqb}
use Rattle.catalogue.specs.Tests.{pick}
use Rattle.catalogue.specs.Numbers.{most_workers, vertex_pool}
use Rattle.catalogue.specs.declared.workers.Place.{Place}
use Rattle.catalogue.specs.declared.workers.Place.TheVariants.{Idle, AddV, RemV, ConV, AddEFindU, RemEFindU, ConEFindU, AddEFindV, RemEFindV, ConEFindV, AddE, RemE, ConE, Trial, TrialOpen}
use Rattle.catalogue.specs.declared.workers.Pair.{Pair}
use Rattle.catalogue.specs.declared.workers.Reach.{Reach}
use Rattle.catalogue.specs.declared.workers.Ahead.{Ahead}
use Rattle.catalogue.specs.declared.workers.Worker.{Worker}
use Rattle.catalogue.specs.declared.workers.Table.{Table}
use Rattle.catalogue.specs.declared.workers.Request.{Request}

-- a record outside a trial: the place, and zero for all that only a trial uses
abbrev pub no_reach : Reach
no_reach = record { met = replicate 4 0; queue = replicate 256 0; front = 0; back = 0 }

abbrev pub bare : Place → Worker
bare place = record { place = place; reach = no_reach }

abbrev pub idle : Worker
idle = bare Idle

abbrev pub busy_at : Place → Bool
busy_at Idle = false
busy_at (AddV k p c) = true
busy_at (RemV k p c) = true
busy_at (ConV k c) = true
busy_at (AddEFindU pair c) = true
busy_at (RemEFindU pair c) = true
busy_at (ConEFindU pair c) = true
busy_at (AddEFindV pair u c) = true
busy_at (RemEFindV pair u c) = true
busy_at (ConEFindV pair u c) = true
busy_at (AddE ends p c) = true
busy_at (RemE ends p c) = true
busy_at (ConE ends c) = true
busy_at (Trial ends e) = true
busy_at (TrialOpen ends e x c) = true

-- the set of vertices met: number n is bit n % 64 of word n / 64
unfoldable pub has : List ℕ → ℕ → Bool
has met n = eqb (get_or met (n / 64) 0 / 2 ^ (n % 64) % 2) 1

-- the set with one number more, which was not in it
unfoldable pub with_met : List ℕ → ℕ → List ℕ
with_met met n = set met (n / 64) (get_or met (n / 64) 0 + 2 ^ (n % 64))

-- how many of the numbers below n a test holds for
unfoldable pub count : (ℕ → Bool) → ℕ → ℕ
count test zero = 0
count test (suc n) = count test n + pick (test n) 1 0

-- Document 01, "Replies and refusals", last sentence: how many series a trial has met.
unfoldable pub met_count : List ℕ → ℕ
met_count met = count (has met) vertex_pool

-- A vertex is met and put at the end of the queue.
abbrev pub meet : Reach → ℕ → Reach
meet r n = record { met = with_met r.met n; queue = set r.queue r.back n; front = r.front; back = r.back + 1 }

-- The front of the queue is taken; the number taken remains where it was.
abbrev pub take_one : Reach → Reach
take_one r = record { met = r.met; queue = r.queue; front = r.front + 1; back = r.back }

-- What a step of a trial reads of its reach.
abbrev pub ahead : Reach → Ahead
ahead r = record { met = r.met; x = get_or r.queue r.front 0; front = r.front; back = r.back }

-- The trial's record as it begins: v alone is met and queued.
abbrev pub begun : Place → ℕ → Worker
begun place v = record { place = place; reach = meet no_reach v }

-- The record at another place of its trial.
abbrev pub kept : Worker → Place → Worker
kept w place = record { place = place; reach = w.reach }

-- The same with a vertex met.
abbrev pub queued : Worker → Place → ℕ → Worker
queued w place n = record { place = place; reach = meet w.reach n }

-- The same with the front of the queue taken.
abbrev pub taken : Worker → Place → Worker
taken w place = record { place = place; reach = take_one w.reach }

-- A request by its code and its keys.
abbrev pub asks : ℕ → ℤ → ℤ → Request
asks code k l = record { code = code; pair = record { k = k; l = l } }

abbrev pub asks_pair : ℕ → Pair → Request
asks_pair code pair = record { code = code; pair = pair }

-- The request that a place belongs to; codes 1 to 3 have no second key.
abbrev pub request_of : Place → Request
request_of Idle = asks 0 (pos 0) (pos 0)
request_of (AddV k p c) = asks 1 k (pos 0)
request_of (RemV k p c) = asks 2 k (pos 0)
request_of (ConV k c) = asks 3 k (pos 0)
request_of (AddEFindU pair c) = asks_pair 4 pair
request_of (AddEFindV pair u c) = asks_pair 4 pair
request_of (AddE ends p c) = asks_pair 4 ends.pair
request_of (Trial ends e) = asks_pair 4 ends.pair
request_of (TrialOpen ends e x c) = asks_pair 4 ends.pair
request_of (RemEFindU pair c) = asks_pair 5 pair
request_of (RemEFindV pair u c) = asks_pair 5 pair
request_of (RemE ends p c) = asks_pair 5 ends.pair
request_of (ConEFindU pair c) = asks_pair 6 pair
request_of (ConEFindV pair u c) = asks_pair 6 pair
request_of (ConE ends c) = asks_pair 6 ends.pair

-- the record at a number, and the table with another record there;
-- `blank` stands for a record that the table does not have
abbrev pub blank : Worker
blank = record { place = Idle; reach = record { met = []; queue = []; front = 0; back = 0 } }

abbrev pub worker_at : Table → ℕ → Worker
worker_at t w = get_or t.workers w blank

abbrev pub put : Table → ℕ → Worker → Table
put t n w = record { count = t.count; workers = set t.workers n w }

abbrev pub busy : Table → ℕ → Bool
busy t w = busy_at (worker_at t w).place

-- a table of idle workers
abbrev pub idle_table : ℕ → Table
idle_table count = record { count = count; workers = replicate most_workers idle }
