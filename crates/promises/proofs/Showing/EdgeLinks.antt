-- The link of an edge, or the first-edge link of a vertex, is written: another tag, or another node after p.
use Prim.Native.Nat.{ℕ, ◌≤◌, ◌<◌}
use mathlib.Core.Path.{◌≡◌, ◌∙◌}
use mathlib.Core.Logic.{inl, inr}
use native.Mathlib.Omega.{arith}
use Rattle.catalogue.specs.Tests.{upd}
use Rattle.catalogue.specs.Numbers.{plain, some_link}
use Rattle.catalogue.specs.Numbers as numbers
use Rattle.catalogue.specs.Catalogue.{Catalogue, first_link, edge_link}
use Rattle.catalogue.specs.Writes.{commit, with_first}
use Rattle.catalogue.specs.Steps.Edges.{relink}
use Rattle.catalogue.specs.declared.writes.Write.TheVariants.{EdgeLink}
use Rattle.laws.proofs.Leads.{edge_next_in, first_next_in}
use Rattle.row.proofs.Base.{upd_same, upd_other, same?}
use Rattle.row.specs.Lists.Edges.{Tag, Prev, head, at, Edges, link, put_first, put_next, eunlink, retag}
use Rattle.row.specs.Machine.World.{World, with_e}
use Rattle.promises.proofs.Showing.Shows.{Shows, Series, prev_of, edge_tag_of}
use Rattle.promises.proofs.Showing.Pools.{edges_in_pool}
use Rattle.promises.proofs.Showing.Turned.{Turned, another_tag, another_next}
use Rattle.promises.proofs.Showing.Written.{first_there, first_else, edge_there, edge_else}

-- an edge that is handed out
abbrev pub Out : ℕ → ℕ → Type 0
Out used e = (1 ≤ e) × (e < used)

-- p is a first-edge link, or such an edge
abbrev pub Behind : ℕ → Prev → Type 0
Behind used head = Unit {0}
Behind used (at p) = Out used p

-- the tag of p's link
abbrev pub tag_behind : (ℕ → Tag) → Prev → ℕ
tag_behind tag head = plain
tag_behind tag (at p) = edge_tag_of (tag p)

-- the edges with other links
abbrev turned : Edges → (ℕ → ℕ) → (ℕ → ℕ) → (ℕ → Tag) → Edges
turned E first next tag = record { first = first; next = next; tag = tag; key = E.key; target = E.target; owner = E.owner; used = E.used }

-- ---- an edge gets another link

module _ (C : Catalogue) (W : World) (s : Shows C W) (e : ℕ) (o : Out W.e.used e) (n : ℕ) (fits : n < 2048) (t : Tag) (next : ℕ → ℕ) (tag : ℕ → Tag)
    (leads : Turned W.e.next W.e.tag e n t next tag) where
  links : (f : ℕ) → 1 ≤ f → f < W.e.used → edge_link (commit C (EdgeLink e n (edge_tag_of t))) f ≡ some_link (next f) (edge_tag_of (tag f))
  unfolding commit
  links f l h =
      elim (leads f) [
        | inl q ↦ rw (q.1, q.2, q.0) (edge_there C.edges.link e n t o.0 (omega (arith, o.1, edges_in_pool C W s)) fits)
        | inr q ↦ rw (q.1, q.2) (edge_else C.edges.link e (numbers.link n (edge_tag_of t)) f q.0 ∙ s.elinks f l h)
      ]

  shows_link : Shows (commit C (EdgeLink e n (edge_tag_of t))) (with_e W (turned W.e W.e.first next tag))
  unfolding commit
  shows_link = record {
    vertices = s.vertices;
    vertices_fit = s.vertices_fit;
    edges = s.edges;
    edges_fit = s.edges_fit;
    vkeys = s.vkeys;
    vlinks = s.vlinks;
    firsts = s.firsts;
    ekeys = s.ekeys;
    elinks = links;
    targets = s.targets;
  }

-- a link leads into the pool
pub first_fits : (C : Catalogue) (W : World) → Shows C W → (u : ℕ) → Series W.v.used u → W.e.first u < 2048
first_fits C W s u o = first_next_in C.vertices.first u (W.e.first u) plain (s.firsts u o.low o.high)

pub next_fits : (C : Catalogue) (W : World) → Shows C W → (e : ℕ) → Out W.e.used e → W.e.next e < 2048
next_fits C W s e o = edge_next_in C.edges.link e (W.e.next e) (edge_tag_of (W.e.tag e)) (s.elinks e o.0 o.1)

pub shows_retag : (C : Catalogue) (W : World) → Shows C W → (e : ℕ) → Out W.e.used e → (t : Tag)
    → Shows (commit C (EdgeLink e (W.e.next e) (edge_tag_of t))) (with_e W (retag W.e e t))
shows_retag C W s e o t =
    shows_link C W s e o (W.e.next e) (next_fits C W s e o) t W.e.next (upd W.e.tag e t) (another_tag W.e.next W.e.tag e t)

-- ---- another node after p

module _ (C : Catalogue) (W : World) (s : Shows C W) (n : ℕ) (fits : n < 2048) where
  first_turned : (u x : ℕ) → 2 ≤ x → x < W.v.used → first_link (with_first C u (numbers.link n plain)) x ≡ some_link (upd W.e.first u n x) plain
  first_turned u x l h =
      elim (same? x u) [
        | inl q ↦ rw (q, upd_same W.e.first u n) (first_there C.vertices.first u n fits)
        | inr d ↦ rw (upd_other W.e.first u n x d) (first_else C.vertices.first u (numbers.link n plain) x d ∙ s.firsts x l h)
      ]

  pub shows_relink : (u : ℕ) (p : Prev) → Behind W.e.used p
      → Shows (commit C (relink u (prev_of p) (tag_behind W.e.tag p) n))
      (with_e W (turned W.e (put_first W.e.first u p n) (put_next W.e.next p n) W.e.tag))
  unfolding commit
  shows_relink u head b = record {
    vertices = s.vertices;
    vertices_fit = s.vertices_fit;
    edges = s.edges;
    edges_fit = s.edges_fit;
    vkeys = s.vkeys;
    vlinks = s.vlinks;
    firsts = first_turned u;
    ekeys = s.ekeys;
    elinks = s.elinks;
    targets = s.targets;
  }
  shows_relink u (at p) b = shows_link C W s p b n fits (W.e.tag p) (upd W.e.next p n) W.e.tag (another_next W.e.next W.e.tag p n)

-- p passes over its next c
pub shows_unlink : (C : Catalogue) (W : World) → Shows C W → (u : ℕ) (p : Prev) (c : ℕ) → Behind W.e.used p → link W.e u p ≡ c → Out W.e.used c
    → Shows (commit C (relink u (prev_of p) (tag_behind W.e.tag p) (W.e.next c))) (with_e W (eunlink W.e u p))
shows_unlink C W s u p c b lead o = rw (← lead) (shows_relink C W s (W.e.next (link W.e u p)) (rw lead (next_fits C W s c o)) u p b)
