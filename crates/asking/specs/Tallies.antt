-- What the programs add up over many requests, and the keys of the vertices that they ask for.
use Rattle.std.specs.Prelude.{ℕ, ◌+◌, ◌%◌, ◌^◌, ℤ, pos, neg_ℤ, ◌==◌}
use Rattle.catalogue.specs.Tests.{pick}
use Rattle.asking.specs.declared.perform.Performed.{Performed}
use Rattle.asking.specs.declared.tally.Tally.{Tally}

-- before the first request
unfoldable pub none : Tally
none = record { done = 0; no_room = 0; other = 0; steps = 0 }

-- a sum of 32 bits
abbrev pub plus : ℕ → ℕ → ℕ
plus a b = (a + b) % 2 ^ 32

-- with one request more: one of the three counts goes up, and its steps are added
unfoldable pub counted : Tally → Performed → Tally
counted t p =
    let steps = plus t.steps p.steps in
    pick (p.number == 1) (record { done = plus t.done 1; no_room = t.no_room; other = t.other; steps = steps })
    (pick (p.number == 9) (record { done = t.done; no_room = plus t.no_room 1; other = t.other; steps = steps })
    (record { done = t.done; no_room = t.no_room; other = plus t.other 1; steps = steps }))

-- the key of the n-th vertex
unfoldable pub key : ℕ → ℤ
key n = pick (n % 2 == 0) (pos n) (neg_ℤ (pos n))
