-- The catalogue after each kind of write: document 01, "The steps", the paragraphs on AddV and on AddE.
-- A new node is filled, then counted, then linked. The order shows only where the new node is p itself
-- (a node linked though never handed out): the last link wins there.
use Rattle.std.specs.Prelude.{ℕ, ◌-◌, ℤ}
use Rattle.catalogue.specs.Tests.{upd}
use Rattle.catalogue.specs.Numbers.{link, edge_tail, plain, transit}
use Rattle.catalogue.specs.Catalogue.{Catalogue}
use Rattle.catalogue.specs.declared.writes.Write.{Write}
use Rattle.catalogue.specs.declared.writes.Write.TheVariants.{Nothing, VertexLink, NewVertex, FirstEdge, EdgeLink, NewFirst, NewEdge}

abbrev pub with_vertex_link : Catalogue → ℕ → ℕ → Catalogue
with_vertex_link C n word = record {
  counts = C.counts;
  vertices = record { key = C.vertices.key; link = upd C.vertices.link n word; first = C.vertices.first };
  edges = C.edges;
}

abbrev pub with_first : Catalogue → ℕ → ℕ → Catalogue
with_first C n word = record {
  counts = C.counts;
  vertices = record { key = C.vertices.key; link = C.vertices.link; first = upd C.vertices.first n word };
  edges = C.edges;
}

abbrev pub with_edge_link : Catalogue → ℕ → ℕ → Catalogue
with_edge_link C n word = record {
  counts = C.counts;
  vertices = C.vertices;
  edges = record { key = C.edges.key; target = C.edges.target; link = upd C.edges.link n word };
}

-- a vertex with no edges, filled and counted; its number is two above the count before
abbrev pub with_vertex : Catalogue → ℕ → ℤ → ℕ → Catalogue
with_vertex C n key next = record {
  counts = record { vertices = n - 1; edges = C.counts.edges };
  vertices = record { key = upd C.vertices.key n key; link = upd C.vertices.link n (link next plain); first = upd C.vertices.first n (link edge_tail plain) };
  edges = C.edges;
}

-- an edge on trial, filled and counted; its number is one above the count before
abbrev pub with_edge : Catalogue → ℕ → ℤ → ℕ → ℕ → Catalogue
with_edge C n key target next = record {
  counts = record { vertices = C.counts.vertices; edges = n };
  vertices = C.vertices;
  edges = record { key = upd C.edges.key n key; target = upd C.edges.target n target; link = upd C.edges.link n (link next transit) };
}

unfoldable pub commit : Catalogue → Write → Catalogue
commit C Nothing = C
commit C (VertexLink n next tag) = with_vertex_link C n (link next tag)
commit C (NewVertex n key next p) = with_vertex_link (with_vertex C n key next) p (link n plain)
commit C (FirstEdge u next) = with_first C u (link next plain)
commit C (EdgeLink n next tag) = with_edge_link C n (link next tag)
commit C (NewFirst n key target next u) = with_first (with_edge C n key target next) u (link n plain)
commit C (NewEdge n key target next p tag) = with_edge_link (with_edge C n key target next) p (link n tag)
