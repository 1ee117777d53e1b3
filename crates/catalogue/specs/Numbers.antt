-- Document 01, "Numbers": workers, pools, keys, links and tags.
use Rattle.std.specs.Prelude.{ℕ, ◌+◌, ◌*◌, ◌/◌, ◌%◌, Bool, true, ℤ, pos, negsuc, ltb, leb, eqb, Option, Some, None}
use Rattle.catalogue.specs.Tests.{pick, eq_z}
use Rattle.catalogue.specs.declared.links.Link.{Link}
use Rattle.catalogue.specs.declared.links.Room.{Room}
use Rattle.catalogue.specs.declared.links.Room.TheVariants.{Next, Full, Torn}

-- First paragraph: at most eight workers.
abbrev pub most_workers : ℕ
most_workers = 8

-- First paragraph: the vertex nodes; head and tail are never handed out, all others are.
abbrev pub vertex_pool : ℕ
vertex_pool = 256

abbrev pub head : ℕ
head = 0

abbrev pub tail : ℕ
tail = 1

abbrev pub most_vertices : ℕ
most_vertices = 254

-- First paragraph: the edge nodes; the first is the tail of all edge lists.
abbrev pub edge_pool : ℕ
edge_pool = 2048

abbrev pub edge_tail : ℕ
edge_tail = 0

abbrev pub most_edges : ℕ
most_edges = 2047

-- First paragraph: the two keys that no request may use.
abbrev pub least : ℤ
least = negsuc 2147483647

abbrev pub greatest : ℤ
greatest = pos 2147483647

unfoldable pub reserved : ℤ → Bool
reserved k = pick (eq_z k least) true (eq_z k greatest)

-- Second paragraph: the four tags.
abbrev pub plain : ℕ
plain = 0

abbrev pub marked : ℕ
marked = 1

abbrev pub transit : ℕ
transit = 2

abbrev pub added : ℕ
added = 3

-- Second paragraph: a link is one number made of a node number and a tag.
abbrev pub link : ℕ → ℕ → ℕ
link node tag = 4 * node + tag

-- Second paragraph: which tags a vertex, a first-edge link and an edge node may have.
abbrev pub vertex_tag : ℕ → Bool
vertex_tag t = leb t marked

abbrev pub first_tag : ℕ → Bool
first_tag t = eqb t plain

abbrev pub edge_tag : ℕ → Bool
edge_tag t = leb marked t

-- A whole link, as a read answers it.
abbrev pub some_link : ℕ → ℕ → Option (Link ℕ)
some_link next tag = Some (record { next = next; tag = tag })

-- A word taken apart, where a pool and a test of the tag are known; nothing where the word is no such link.
abbrev pub apart : ℕ → (ℕ → Bool) → ℕ → Option (Link ℕ)
apart pool allowed word = pick (ltb (word / 4) pool) (pick (allowed (word % 4)) (some_link (word / 4) (word % 4)) None) None

-- First paragraph: a pool hands out its nodes in rising order, so the count handed out says which is next.
-- Above its limit a count is torn.
unfoldable pub room : ℕ → ℕ → ℕ → Room
room limit lowest count = pick (ltb count limit) (Next (lowest + count)) (pick (eqb count limit) Full Torn)
