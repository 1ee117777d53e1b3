-- Document 01, "The steps", the paragraph on AddV and RemV.
use Rattle.std.specs.Prelude.{ℕ, Bool, true, false, ℤ, eqb}
use Rattle.std.specs.Int.Signed.{lt_z}
use Rattle.catalogue.specs.Tests.{pick, eq_z}
use Rattle.catalogue.specs.Numbers.{head, tail, plain, marked, most_vertices, room}
use Rattle.catalogue.specs.Catalogue.{Catalogue, vertex_key, vertex_link, at_link}
use Rattle.catalogue.specs.Steps.Places.{vertex_place}
use Rattle.catalogue.specs.declared.links.Room.{Room}
use Rattle.catalogue.specs.declared.links.Room.TheVariants as room
use Rattle.catalogue.specs.declared.writes.Write.TheVariants.{Nothing, VertexLink, NewVertex}
use Rattle.catalogue.specs.declared.steps.VertexSeen.{VertexSeen}
use Rattle.catalogue.specs.declared.steps.VertexSeen.TheVariants as seen
use Rattle.catalogue.specs.declared.steps.Decision.{Decision}
use Rattle.catalogue.specs.declared.steps.Decision.TheVariants.{Torn, Code, Going, Reply}

-- At c, which p leads to: c's mark, then c's key.
unfoldable pub see_vertex : Catalogue → ℤ → ℕ → VertexSeen
see_vertex C k c =
    at_link (vertex_link C c) seen.Torn (λ next tag.
    pick (eqb tag marked) (seen.Unlinks next)
    (pick (lt_z (vertex_key C c) k) (seen.Onward next) (pick (eq_z (vertex_key C c) k) (seen.Settles next true) (seen.Settles next false))))

-- One look: p's link against (c, PLAIN), then c. A p that is the tail makes the record torn.
unfoldable pub look_at_vertex : Catalogue → ℤ → ℕ → ℕ → VertexSeen
look_at_vertex C k p c =
    pick (eqb p tail) seen.Torn
    (at_link (vertex_link C p) seen.Torn (λ to tag.
    pick (eqb to c) (pick (eqb tag plain) (see_vertex C k c) seen.Again) seen.Again))

-- AddV with no such key: the next vertex of the pool, between p and c; or no room.
abbrev pub new_vertex : Room → ℤ → ℕ → ℕ → Decision
new_vertex (room.Next n) k p c = Reply 1 (NewVertex n k c p)
new_vertex room.Full k p c = Reply 9 Nothing
new_vertex room.Torn k p c = Torn

unfoldable pub settle_add_vertex : Catalogue → ℤ → ℕ → ℕ → Bool → Decision
settle_add_vertex C k p c equal = pick equal (Reply 2 Nothing) (new_vertex (room most_vertices 2 C.counts.vertices) k p c)

-- RemV: c gets its mark, and is still linked.
unfoldable pub settle_remove_vertex : ℕ → ℕ → Bool → Decision
settle_remove_vertex c next equal = pick equal (Reply 1 (VertexLink c next marked)) (Reply 2 Nothing)

-- Settling goes by the code.
unfoldable pub settle_vertex : Catalogue → ℕ → ℤ → ℕ → ℕ → ℕ → Bool → Decision
settle_vertex C code k p c next equal =
    pick (eqb code 1) (settle_add_vertex C k p c equal) (pick (eqb code 2) (settle_remove_vertex c next equal) Code)

-- Starting again: p is the head and c its next.
unfoldable pub start_again : Catalogue → ℕ → ℤ → Decision
start_again C code k = at_link (vertex_link C head) Torn (λ first tag. Going (vertex_place code k head first) Nothing)

-- What follows from what was seen.
abbrev pub decide_vertex : Catalogue → ℕ → ℤ → ℕ → ℕ → VertexSeen → Decision
decide_vertex C code k p c seen.Torn = Torn
decide_vertex C code k p c seen.Again = start_again C code k
decide_vertex C code k p c (seen.Unlinks next) = Going (vertex_place code k p next) (VertexLink p next plain)
decide_vertex C code k p c (seen.Onward next) = Going (vertex_place code k c next) Nothing
decide_vertex C code k p c (seen.Settles next equal) = settle_vertex C code k p c next equal

unfoldable pub step_vertex : Catalogue → ℕ → ℤ → ℕ → ℕ → Decision
step_vertex C code k p c = decide_vertex C code k p c (look_at_vertex C k p c)
