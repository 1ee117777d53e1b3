-- Two lent slices as one memory, the catalogue that they hold, and the writes within the pools.
use Rattle.std.specs.Prelude.{ℕ, ◌<◌, ◌≤◌, List, ◌≡◌, ℤ, true, false, Result, MatchResult}
use Rattle.catalogue.specs.declared.answers.Refusal.{Refusal}
use Rattle.catalogue.specs.declared.answers.Refusal.TheVariants as refusal
use Rattle.catalogue.specs.Numbers.{edge_pool}
use Rattle.catalogue.specs.Catalogue.{Catalogue}
use Rattle.catalogue.specs.Lent.{Memory, memory_of, catalogue_in, lay, sized}
use Rattle.memory.specs.declared.Lent.{Lent}
use Rattle.catalogue.specs.declared.writes.Write.{Write}
use Rattle.catalogue.specs.declared.writes.Write.TheVariants.{Nothing, VertexLink, NewVertex, FirstEdge, EdgeLink, NewFirst, NewEdge}

-- two slices that are the memory of a catalogue
abbrev pub Hold : List ℤ → List ℕ → Catalogue → Type 0
Hold keys words C = (keys ≡ (lay C).keys) × (words ≡ (lay C).words)

-- what is lent to be read: its memory, and the catalogue in it
abbrev pub memory_lent : Lent → Memory
memory_lent l = memory_of l.keys.now l.words.now

abbrev pub held : Lent → Catalogue
held l = catalogue_in l.keys.now l.words.now

-- What is lent of memory: all of it, or nothing where it is not of the stated sizes.
abbrev pub Lends : Memory → Result Lent Refusal → Type 0
Lends m r = MatchResult r (λ l. (sized m ≡ true) × (memory_lent l ≡ m)) (λ why. (sized m ≡ false) × (why ≡ refusal.Room))

-- What a write asks of its numbers beyond their types: an edge is in its pool.
-- A vertex that is handed out is neither the head nor the tail.
abbrev pub Writable : Write → Type 0
Writable Nothing = Unit {0}
Writable (VertexLink n next tag) = Unit {0}
Writable (NewVertex n key next p) = 2 ≤ n
Writable (FirstEdge u next) = Unit {0}
Writable (EdgeLink n next tag) = n < edge_pool
Writable (NewFirst n key target next u) = n < edge_pool
Writable (NewEdge n key target next p tag) = (n < edge_pool) × (p < edge_pool)
