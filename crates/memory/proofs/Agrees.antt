-- Two catalogues that agree are laid as one memory, and agree after the same write.
use Prim.Native.Nat.{ℕ, ◌<◌}
use mathlib.Core.Path.{◌≡◌, refl, ap, ◌∙◌}
use lib.IntN.{ℤ}
use lib.Dec.{eqb}
use Rattle.catalogue.specs.Tests.{pick, upd}
use Rattle.catalogue.specs.Numbers.{vertex_pool, edge_pool, link, edge_tail, plain, transit}
use Rattle.catalogue.specs.Catalogue.{Catalogue}
use Rattle.catalogue.specs.Writes.{with_vertex_link, with_first, with_edge_link, with_vertex, with_edge, commit}
use Rattle.catalogue.specs.Lent.{view, lay}
use Rattle.catalogue.specs.declared.writes.Write.{Write}
use Rattle.catalogue.specs.declared.writes.Write.TheVariants.{Nothing, VertexLink, NewVertex, FirstEdge, EdgeLink, NewFirst, NewEdge}
pub use Rattle.memory.proofs.Agreement.{Agree}
use Rattle.memory.proofs.Laid.{length_keys, length_words, laid_vkey, laid_ekey, laid_vlink, laid_first, laid_target, laid_elink, laid_keys, laid_words}

pub agree_laid : (C : Catalogue) → Agree (view (lay C)) C
unfolding lay
agree_laid C = record {
  vertices = refl;
  edges = refl;
  vkeys = laid_vkey C;
  vlinks = laid_vlink C;
  firsts = laid_first C;
  ekeys = laid_ekey C;
  targets = laid_target C;
  elinks = laid_elink C;
}

pub lay_agree : {C D : Catalogue} → Agree C D → lay C ≡ lay D
lay_agree {C} {D} a = λ i. record { keys = keys i; words = words i }
  where
    laid : Agree (view (lay C)) C
    laid = agree_laid C

    keys : (lay C).keys ≡ (lay D).keys
    keys =
        laid_keys D (lay C).keys (length_keys C)
        (λ n h. laid.vkeys n h ∙ a.vkeys n h)
        (λ n h. laid.ekeys n h ∙ a.ekeys n h)

    words : (lay C).words ≡ (lay D).words
    words =
        laid_words D (lay C).words (length_words C)
        (laid.vertices ∙ a.vertices)
        (laid.edges ∙ a.edges)
        (λ n h. laid.vlinks n h ∙ a.vlinks n h)
        (λ n h. laid.firsts n h ∙ a.firsts n h)
        (λ n h. laid.targets n h ∙ a.targets n h)
        (λ n h. laid.elinks n h ∙ a.elinks n h)

-- ---- a write stores to each field at the same number

upd_same : {A : Type 0} (bound : ℕ) (f g : ℕ → A) (i : ℕ) (v : A) → ((n : ℕ) → n < bound → f n ≡ g n)
    → (n : ℕ) → n < bound → upd f i v n ≡ upd g i v n
unfolding upd
upd_same bound f g i v h n b = ap (pick (eqb n i) v) (h n b)

module _ {C D : Catalogue} (a : Agree C D) (n : ℕ) where
  vertex_linked : (word : ℕ) → Agree (with_vertex_link C n word) (with_vertex_link D n word)
  vertex_linked word = record {
    vertices = a.vertices;
    edges = a.edges;
    vkeys = a.vkeys;
    vlinks = upd_same vertex_pool C.vertices.link D.vertices.link n word a.vlinks;
    firsts = a.firsts;
    ekeys = a.ekeys;
    targets = a.targets;
    elinks = a.elinks;
  }

  first_linked : (word : ℕ) → Agree (with_first C n word) (with_first D n word)
  first_linked word = record {
    vertices = a.vertices;
    edges = a.edges;
    vkeys = a.vkeys;
    vlinks = a.vlinks;
    firsts = upd_same vertex_pool C.vertices.first D.vertices.first n word a.firsts;
    ekeys = a.ekeys;
    targets = a.targets;
    elinks = a.elinks;
  }

  edge_linked : (word : ℕ) → Agree (with_edge_link C n word) (with_edge_link D n word)
  edge_linked word = record {
    vertices = a.vertices;
    edges = a.edges;
    vkeys = a.vkeys;
    vlinks = a.vlinks;
    firsts = a.firsts;
    ekeys = a.ekeys;
    targets = a.targets;
    elinks = upd_same edge_pool C.edges.link D.edges.link n word a.elinks;
  }

  vertex_filled : (key : ℤ) (next : ℕ) → Agree (with_vertex C n key next) (with_vertex D n key next)
  vertex_filled key next = record {
    vertices = refl;
    edges = a.edges;
    vkeys = upd_same vertex_pool C.vertices.key D.vertices.key n key a.vkeys;
    vlinks = upd_same vertex_pool C.vertices.link D.vertices.link n (link next plain) a.vlinks;
    firsts = upd_same vertex_pool C.vertices.first D.vertices.first n (link edge_tail plain) a.firsts;
    ekeys = a.ekeys;
    targets = a.targets;
    elinks = a.elinks;
  }

  edge_filled : (key : ℤ) (target next : ℕ) → Agree (with_edge C n key target next) (with_edge D n key target next)
  edge_filled key target next = record {
    vertices = a.vertices;
    edges = refl;
    vkeys = a.vkeys;
    vlinks = a.vlinks;
    firsts = a.firsts;
    ekeys = upd_same edge_pool C.edges.key D.edges.key n key a.ekeys;
    targets = upd_same edge_pool C.edges.target D.edges.target n target a.targets;
    elinks = upd_same edge_pool C.edges.link D.edges.link n (link next transit) a.elinks;
  }

pub commit_agree : {C D : Catalogue} → Agree C D → (write : Write) → Agree (commit C write) (commit D write)
unfolding commit
commit_agree a Nothing = a
commit_agree a (VertexLink n next tag) = vertex_linked a n (link next tag)
commit_agree a (NewVertex n key next p) = vertex_linked (vertex_filled a n key next) p (link n plain)
commit_agree a (FirstEdge u next) = first_linked a u (link next plain)
commit_agree a (EdgeLink n next tag) = edge_linked a n (link next tag)
commit_agree a (NewFirst n key target next u) = first_linked (edge_filled a n key target next) u (link n plain)
commit_agree a (NewEdge n key target next p tag) = edge_linked (edge_filled a n key target next) p (link n tag)

-- a write to memory that holds a catalogue
pub committed_lay : (C : Catalogue) (write : Write) → lay (commit (view (lay C)) write) ≡ lay (commit C write)
committed_lay C write = lay_agree (commit_agree (agree_laid C) write)
