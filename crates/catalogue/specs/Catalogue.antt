-- Document 01, "Numbers", paragraph 2: the catalogue, the fresh one, and what is read in it.
use Rattle.std.specs.Prelude.{ℕ, ℤ, pos, ltb, eqb, Option, Some, None}
use Rattle.catalogue.specs.Tests.{pick, upd}
use Rattle.catalogue.specs.Numbers.{vertex_pool, head, tail, edge_pool, edge_tail, least, greatest, plain, marked, vertex_tag, first_tag, edge_tag, link, some_link, apart}
use Rattle.catalogue.specs.declared.links.Link.{Link}

-- Paragraph 2: how many vertices and edges are handed out.
pub record Counts : Type 0 where
  pub vertices : ℕ
  pub edges : ℕ

-- Paragraph 2: what a vertex has, by node number. Links are words here: any number may stand there.
pub record Vertices : Type 0 where
  pub key : ℕ → ℤ
  pub link : ℕ → ℕ
  pub first : ℕ → ℕ

-- Paragraph 2: what an edge has, by node number.
pub record Edges : Type 0 where
  pub key : ℕ → ℤ
  pub target : ℕ → ℕ
  pub link : ℕ → ℕ

-- A vertex number in a record is a u8, and an edge number is tested before its key or target is read.
-- So the reads below are never asked beyond their pool (docs/DECISIONS.md, R45).
pub record Catalogue : Type 0 where
  pub counts : Counts
  pub vertices : Vertices
  pub edges : Edges

-- Paragraph 2, its last sentence: the fresh catalogue.
abbrev pub fresh : Catalogue
fresh = record {
  counts = record { vertices = 0; edges = 0 };
  vertices = record { key = upd (λ n. pos 0) head least; link = upd (λ n. 0) head (link tail plain); first = λ n. 0 };
  edges = record { key = λ n. pos 0; target = λ n. 0; link = λ n. 0 };
}

-- Paragraph 2: a vertex's key. The tail's is the greatest, whatever memory holds.
unfoldable pub vertex_key_in : (ℕ → ℤ) → ℕ → ℤ
vertex_key_in keys n = pick (eqb n tail) greatest (keys n)

abbrev pub vertex_key : Catalogue → ℕ → ℤ
vertex_key C = vertex_key_in C.vertices.key

-- Paragraph 2: a vertex's link, whole. The tail has no mark, whatever memory holds, and nothing is read there.
unfoldable pub vertex_link_in : (ℕ → ℕ) → ℕ → Option (Link ℕ)
vertex_link_in words n = pick (eqb n tail) (some_link tail plain) (apart vertex_pool vertex_tag (words n))

abbrev pub vertex_link : Catalogue → ℕ → Option (Link ℕ)
vertex_link C = vertex_link_in C.vertices.link

-- Paragraph 2: a vertex's link to its first edge, which is always PLAIN.
unfoldable pub first_link_in : (ℕ → ℕ) → ℕ → Option (Link ℕ)
first_link_in words n = apart edge_pool first_tag (words n)

abbrev pub first_link : Catalogue → ℕ → Option (Link ℕ)
first_link C = first_link_in C.vertices.first

-- Paragraph 2: an edge's key. The tail's is the greatest, whatever memory holds.
unfoldable pub edge_key_in : (ℕ → ℤ) → ℕ → ℤ
edge_key_in keys n = pick (eqb n edge_tail) greatest (keys n)

abbrev pub edge_key : Catalogue → ℕ → ℤ
edge_key C = edge_key_in C.edges.key

-- Paragraph 2: an edge's link, whole. The tail has none: a record that needs one there (as p or as own edge) is torn.
unfoldable pub edge_link_in : (ℕ → ℕ) → ℕ → Option (Link ℕ)
edge_link_in words n = pick (eqb n edge_tail) None (pick (ltb n edge_pool) (apart edge_pool edge_tag (words n)) None)

abbrev pub edge_link : Catalogue → ℕ → Option (Link ℕ)
edge_link C = edge_link_in C.edges.link

-- Paragraph 2: the target of an edge, a vertex number.
unfoldable pub edge_target_in : (ℕ → ℕ) → ℕ → Option ℕ
edge_target_in words n = pick (ltb (words n) vertex_pool) (Some (words n)) None

abbrev pub edge_target : Catalogue → ℕ → Option ℕ
edge_target C = edge_target_in C.edges.target

-- An answer of a read taken apart; `torn` is what becomes of a torn one.
abbrev pub at_link : {A : Type 0} → Option (Link ℕ) → A → (ℕ → ℕ → A) → A
at_link (Some l) torn f = f l.next l.tag
at_link None torn f = torn

abbrev pub at_target : {A : Type 0} → Option ℕ → A → (ℕ → A) → A
at_target (Some n) torn f = f n
at_target None torn f = torn

-- the mark of a vertex, read with its whole link: what follows if it is marked, and if not
abbrev pub at_mark : {A : Type 0} → Option (Link ℕ) → A → A → A → A
at_mark l torn dead live = at_link l torn (λ next tag. pick (eqb tag marked) dead live)
