-- Document 01, "The steps", the paragraph on AddE and RemE, with its cases (a) to (f).
use Rattle.std.specs.Prelude.{ℕ, Bool, true, false, ℤ, eqb, ltb, Option}
use Rattle.std.specs.Int.Signed.{lt_z}
use Rattle.catalogue.specs.Tests.{pick, eq_z}
use Rattle.catalogue.specs.Numbers.{edge_pool, edge_tail, most_edges, plain, marked, transit, added, room}
use Rattle.catalogue.specs.Catalogue.{Catalogue, vertex_link, first_link, edge_key, edge_link, edge_target, at_link, at_target, at_mark}
use Rattle.catalogue.specs.Steps.Places.{edge_place}
use Rattle.catalogue.specs.Steps.Both.{see_both, at_both}
use Rattle.catalogue.specs.declared.links.Room.{Room}
use Rattle.catalogue.specs.declared.links.Room.TheVariants as room
use Rattle.catalogue.specs.declared.links.Link.{Link}
use Rattle.catalogue.specs.declared.workers.Ends.{Ends}
use Rattle.catalogue.specs.declared.workers.Prev.{Prev}
use Rattle.catalogue.specs.declared.workers.Prev.TheVariants.{First, Edge}
use Rattle.catalogue.specs.declared.workers.Place.TheVariants.{Trial}
use Rattle.catalogue.specs.declared.writes.Write.{Write}
use Rattle.catalogue.specs.declared.writes.Write.TheVariants as write
use Rattle.catalogue.specs.declared.steps.Landed.{Landed}
use Rattle.catalogue.specs.declared.steps.EdgeSeen.{EdgeSeen}
use Rattle.catalogue.specs.declared.steps.EdgeSeen.TheVariants as seen
use Rattle.catalogue.specs.declared.steps.Decision.{Decision}
use Rattle.catalogue.specs.declared.steps.Decision.TheVariants.{Torn, Code, Going, Begins, Reply}

-- p's link: the first-edge link of u, or the link of an edge node.
abbrev pub link_behind : Catalogue → ℕ → Prev → Option (Link ℕ)
link_behind C u First = first_link C u
link_behind C u (Edge p) = edge_link C p

abbrev pub landed : ℕ → ℕ → ℕ → Bool → Landed
landed kept next tag equal = record { kept = kept; next = next; tag = tag; equal = equal }

-- (e), (f): c's key.
unfoldable pub see_key : Catalogue → ℤ → ℕ → ℕ → ℕ → ℕ → EdgeSeen
see_key C l c kept next tag =
    pick (lt_z (edge_key C c) l) (seen.Onward next)
    (pick (eq_z (edge_key C c) l) (seen.Settles (landed kept next tag true)) (seen.Settles (landed kept next tag false)))

-- (c), (d): c's tag, and for an ADDED edge the mark of its target. The tail has no tag.
unfoldable pub see_edge : Catalogue → ℤ → ℕ → ℕ → EdgeSeen
see_edge C l c kept =
    pick (eqb c edge_tail) (see_key C l c kept edge_tail plain)
    (at_link (edge_link C c) seen.Torn (λ next tag.
    pick (eqb tag marked) (seen.Unlinks kept next)
    (pick (eqb tag added)
    (at_target (edge_target C c) seen.Torn (λ y.
    at_mark (vertex_link C y) seen.Torn (seen.Marks next) (see_key C l c kept next tag)))
    (see_key C l c kept next tag))))

-- (b): an edge p with its mark, or a p that leads elsewhere. c is looked at only for an unmarked p.
unfoldable pub see_behind : Catalogue → ℤ → ℕ → Prev → ℕ → EdgeSeen
see_behind C l u p c =
    at_link (link_behind C u p) seen.Torn (λ to tag.
    pick (eqb tag marked) seen.Again
    (pick (ltb c edge_pool) (pick (eqb to c) (see_edge C l c tag) seen.Again) seen.Torn))

-- (a): u or v marked; then the rest.
unfoldable pub look_at_edge : Catalogue → Ends → Prev → ℕ → EdgeSeen
look_at_edge C ends p c = at_both (see_both C ends.u ends.v) seen.Torn seen.Dead (see_behind C ends.pair.l ends.u p c)

-- (c): p's link leads to another node, and keeps its tag.
abbrev pub relink : ℕ → Prev → ℕ → ℕ → Write
relink u First kept next = write.FirstEdge u next
relink u (Edge p) kept next = write.EdgeLink p next kept

-- (f) for AddE: the edge n is handed out between p, which keeps its tag, and next.
abbrev pub insert : Ends → Prev → ℕ → ℕ → ℕ → Write
insert ends First kept n next = write.NewFirst n ends.pair.l ends.v next ends.u
insert ends (Edge p) kept n next = write.NewEdge n ends.pair.l ends.v next p kept

-- (f) for AddE with no such key: the next edge of the pool, on trial, and v the first vertex met; or no room.
abbrev pub new_edge : Room → Ends → Prev → ℕ → ℕ → Decision
new_edge (room.Next n) ends p c kept = Begins (Trial ends n) (insert ends p kept n c) ends.v
new_edge room.Full ends p c kept = Reply 9 write.Nothing
new_edge room.Torn ends p c kept = Torn

unfoldable pub settle_add_edge : Catalogue → Ends → Prev → ℕ → Landed → Decision
settle_add_edge C ends p c at =
    pick at.equal (pick (eqb at.tag transit) (Reply 7 write.Nothing) (Reply 4 write.Nothing))
    (new_edge (room most_edges 1 C.counts.edges) ends p c at.kept)

-- (f) for RemE: an ADDED edge gets its mark; only its adder removes an edge on trial.
unfoldable pub settle_remove_edge : ℕ → Landed → Decision
settle_remove_edge c at =
    pick at.equal (pick (eqb at.tag added) (Reply 1 (write.EdgeLink c at.next marked)) (Reply 5 write.Nothing)) (Reply 5 write.Nothing)

-- Settling goes by the code.
unfoldable pub settle_edge : Catalogue → ℕ → Ends → Prev → ℕ → Landed → Decision
settle_edge C code ends p c at =
    pick (eqb code 4) (settle_add_edge C ends p c at) (pick (eqb code 5) (settle_remove_edge c at) Code)

-- (b) Starting again: at the first-edge link of u, and the node that it leads to.
unfoldable pub restart : Catalogue → ℕ → Ends → Decision
restart C code ends = at_link (first_link C ends.u) Torn (λ first tag. Going (edge_place code ends First first) write.Nothing)

-- What follows from what was seen.
abbrev pub decide_edge : Catalogue → ℕ → Ends → Prev → ℕ → EdgeSeen → Decision
decide_edge C code ends p c seen.Torn = Torn
decide_edge C code ends p c seen.Dead = Reply 3 write.Nothing
decide_edge C code ends p c seen.Again = restart C code ends
decide_edge C code ends p c (seen.Unlinks kept next) = Going (edge_place code ends p next) (relink ends.u p kept next)
decide_edge C code ends p c (seen.Marks next) = Going (edge_place code ends p c) (write.EdgeLink c next marked)
decide_edge C code ends p c (seen.Onward next) = Going (edge_place code ends (Edge c) next) write.Nothing
decide_edge C code ends p c (seen.Settles at) = settle_edge C code ends p c at

unfoldable pub step_edge : Catalogue → ℕ → Ends → Prev → ℕ → Decision
step_edge C code ends p c = decide_edge C code ends p c (look_at_edge C ends p c)
