-- One law for each function that writes, and for each kind of write, in the shape of the facts that the code has.
-- After the stores and the callees, memory is that of the catalogue which the contract names.
use Prim.Native.Nat.{ℕ, ◌+◌, ◌-◌, ◌<◌}
use mathlib.Core.List.{List}
use mathlib.Core.Path.{◌≡◌, ◌∙◌, ap, subst}
use lib.IntN.{ℤ}
use lib.ListN.{length, set}
use mir.Facts.{to_z-of_z}
use borrow.Author.Rules.{sfits_of}
use Rattle.catalogue.specs.Numbers.{link, plain, transit, edge_tail}
use Rattle.catalogue.specs.Catalogue.{Catalogue}
use Rattle.catalogue.specs.Writes.{commit, with_vertex, with_edge}
use Rattle.catalogue.specs.declared.writes.Write.{Write}
use Rattle.catalogue.specs.declared.writes.Write.TheVariants.{Nothing, VertexLink, NewVertex, FirstEdge, EdgeLink, NewFirst, NewEdge}
use Rattle.catalogue.specs.Lent.{keys_size, words_size, catalogue_in}
use Rattle.memory.specs.Memories.{Hold, Writable}
use Rattle.memory.proofs.Laid.{view_held}
use Rattle.writing.proofs.Stores.{vertex_linked, first_linked, edge_linked, vertex_filled, edge_filled}

-- A key comes to a callee through its bits, so there it is another number, equal to it.
module _ (key key' : ℤ) (same : key' ≡ key) where
  module _ (keys keys' : List ℤ) (words w₁ w₂ w₃ : List ℕ) (n next : ℕ) (hk : length keys ≡ keys_size) (hw : length words ≡ words_size) where
    pub fill_vertex_held : n < 256 → keys' ≡ set keys n key'
        → w₁ ≡ set words (2 + n) (link next plain) → w₂ ≡ set w₁ (258 + n) (link edge_tail plain) → w₃ ≡ set w₂ 0 (n - 1)
        → Hold keys' w₃ (with_vertex (catalogue_in keys words) n key next)
    fill_vertex_held h k = vertex_filled (catalogue_in keys words) keys keys' words w₁ w₂ w₃ (view_held keys words hk hw) n key next h (k ∙ ap (set keys n) same)

    pub fill_edge_held : (target : ℕ) → n < 2048 → keys' ≡ set keys (256 + n) key'
        → w₁ ≡ set words (514 + n) target → w₂ ≡ set w₁ (2562 + n) (link next transit) → w₃ ≡ set w₂ 1 n
        → Hold keys' w₃ (with_edge (catalogue_in keys words) n key target next)
    fill_edge_held target h k =
        edge_filled (catalogue_in keys words) keys keys' words w₁ w₂ w₃ (view_held keys words hk hw) n key target next h (k ∙ ap (set keys (256 + n)) same)

  module _ (C : Catalogue) (keys : List ℤ) (words words' : List ℕ) (n next : ℕ) where
    pub new_vertex_held : (p : ℕ) → Hold keys words (with_vertex C n key' next) → p < 256 → words' ≡ set words (2 + p) (link n plain)
        → Hold keys words' (commit C (NewVertex n key next p))
    unfolding commit
    new_vertex_held p held = vertex_linked (with_vertex C n key next) keys words words' (rw same at held) p (link n plain)

    pub new_first_held : (target u : ℕ) → Hold keys words (with_edge C n key' target next) → u < 256 → words' ≡ set words (258 + u) (link n plain)
        → Hold keys words' (commit C (NewFirst n key target next u))
    unfolding commit
    new_first_held target u held = first_linked (with_edge C n key target next) keys words words' (rw same at held) u (link n plain)

    pub new_edge_held : (target p tag : ℕ) → Hold keys words (with_edge C n key' target next) → p < 2048 → words' ≡ set words (2562 + p) (link n tag)
        → Hold keys words' (commit C (NewEdge n key target next p tag))
    unfolding commit
    new_edge_held target p tag held = edge_linked (with_edge C n key target next) keys words words' (rw same at held) p (link n tag)

module _ (write : Write) where
  -- what a link of an edge asks
  edge_link_asks : (n next tag : ℕ) → Writable write → write ≡ EdgeLink n next tag → n < 2048
  edge_link_asks n next tag w e = subst Writable e w

  -- the memory after it: a new node, as its function says
  module _ (C : Catalogue) (keys : List ℤ) (words : List ℕ) (key key' : ℤ) (n next : ℕ) where
    committed : (kind : ℤ → Write) → write ≡ kind key → key' ≡ key → Hold keys words (commit C (kind key')) → Hold keys words (commit C write)
    committed kind e same held = rw e (rw same at held)

    pub new_vertex_committed : (p : ℕ) → write ≡ NewVertex n key next p → key' ≡ key → Hold keys words (commit C (NewVertex n key' next p))
        → Hold keys words (commit C write)
    new_vertex_committed p = committed (λ k. NewVertex n k next p)

    pub new_first_committed : (target u : ℕ) → write ≡ NewFirst n key target next u → key' ≡ key → Hold keys words (commit C (NewFirst n key' target next u))
        → Hold keys words (commit C write)
    new_first_committed target u = committed (λ k. NewFirst n k target next u)

    pub new_edge_committed : (target p tag : ℕ) → write ≡ NewEdge n key target next p tag → key' ≡ key
        → Hold keys words (commit C (NewEdge n key' target next p tag)) → Hold keys words (commit C write)
    new_edge_committed target p tag = committed (λ k. NewEdge n k target next p tag)

  -- a link, or nothing
  module _ (keys : List ℤ) (words : List ℕ) (hk : length keys ≡ keys_size) (hw : length words ≡ words_size) where
    pub nothing_committed : write ≡ Nothing → Hold keys words (commit (catalogue_in keys words) write)
    unfolding commit
    nothing_committed e = rw e (view_held keys words hk hw)

    module _ (words' : List ℕ) (n next : ℕ) where
      pub vertex_link_committed : (tag : ℕ) → write ≡ VertexLink n next tag → n < 256 → words' ≡ set words (2 + n) (link next tag)
          → Hold keys words' (commit (catalogue_in keys words) write)
      unfolding commit
      vertex_link_committed tag e h s = rw e (vertex_linked (catalogue_in keys words) keys words words' (view_held keys words hk hw) n (link next tag) h s)

      pub first_edge_committed : write ≡ FirstEdge n next → n < 256 → words' ≡ set words (258 + n) (link next plain)
          → Hold keys words' (commit (catalogue_in keys words) write)
      unfolding commit
      first_edge_committed e h s = rw e (first_linked (catalogue_in keys words) keys words words' (view_held keys words hk hw) n (link next plain) h s)

      pub edge_link_committed : (tag : ℕ) → write ≡ EdgeLink n next tag → Writable write → words' ≡ set words (2562 + n) (link next tag)
          → Hold keys words' (commit (catalogue_in keys words) write)
      unfolding commit
      edge_link_committed tag e w s =
          rw e (edge_linked (catalogue_in keys words) keys words words' (view_held keys words hk hw) n (link next tag) (edge_link_asks n next tag w e) s)

-- the bits of a key, and the law of each kind
pub ruleset kinds = (
  to_z-of_z,
  sfits_of,
  new_vertex_committed,
  new_first_committed,
  new_edge_committed,
  nothing_committed,
  vertex_link_committed,
  first_edge_committed,
  edge_link_committed,
)
