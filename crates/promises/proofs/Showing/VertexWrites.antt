-- The three writes on vertices: a mark, a link past a vertex, and a new vertex.
-- Each shows the world that `row` makes of it.
use Prim.Native.Nat.{ℕ, suc, ◌+◌, ◌≤◌, ◌<◌}
use mathlib.Core.Bool.{Bool, true, false}
use mathlib.Core.Path.{◌≡◌, ◌∙◌}
use mathlib.Core.Logic.{inl, inr}
use native.Mathlib.Omega.{arith}
use lib.IntN.{ℤ}
use Rattle.catalogue.specs.Tests.{upd}
use Rattle.catalogue.specs.Numbers.{link, plain, marked, some_link}
use Rattle.catalogue.specs.Catalogue.{Catalogue, vertex_key, vertex_link, first_link}
use Rattle.catalogue.specs.Writes.{commit}
use Rattle.catalogue.specs.declared.writes.Write.TheVariants.{VertexLink, NewVertex}
use Rattle.laws.proofs.Leads.{vertex_next_in}
use Rattle.laws.proofs.Picks.{clash}
use Rattle.row.proofs.Base.{upd_same, upd_other, same?}
use Rattle.row.specs.Lists.Edges.{head}
use Rattle.row.proofs.Graphs.Good.{WGood}
use Rattle.row.specs.Lists.Store.{Cat, insert, unlink, mark, Inner}
use Rattle.row.specs.Machine.World.{World}
use Rattle.promises.proofs.Showing.Shows.{Shows, vertex_tag_of}
use Rattle.promises.proofs.Showing.Turned.{Turned, another_tag, another_next}
use Rattle.promises.proofs.Showing.Written.{vertex_there, vertex_else, first_there, first_else, vkey_there, vkey_else}

-- the world with other vertices
abbrev pub with_v : World → Cat → World
with_v W D = record { v = D; e = W.e }

-- A vertex gets another link.
module _ (C : Catalogue) (W : World) (s : Shows C W) (x : ℕ) (inner : x ≡ 1 → ⊥) (n : ℕ) (in_pool : n < 256) (b : Bool) (next : ℕ → ℕ) (mark : ℕ → Bool)
    (leads : Turned W.v.next W.v.marked x n b next mark) where
  links : (y : ℕ) → y < W.v.used → (y ≡ 1 → ⊥) → vertex_link (commit C (VertexLink x n (vertex_tag_of b))) y ≡ some_link (next y) (vertex_tag_of (mark y))
  unfolding commit
  links y h d =
      elim (leads y) [
        | inl q ↦ rw (q.1, q.2, q.0) (vertex_there C.vertices.link x n b inner in_pool)
        | inr q ↦ rw (q.1, q.2) (vertex_else C.vertices.link x (link n (vertex_tag_of b)) y q.0 ∙ s.vlinks y h d)
      ]

  shows_link : Shows (commit C (VertexLink x n (vertex_tag_of b))) (with_v W (record { next = next; marked = mark; key = W.v.key; used = W.v.used }))
  unfolding commit
  shows_link = record {
    vertices = s.vertices;
    vertices_fit = s.vertices_fit;
    edges = s.edges;
    edges_fit = s.edges_fit;
    vkeys = s.vkeys;
    vlinks = links;
    firsts = s.firsts;
    ekeys = s.ekeys;
    elinks = s.elinks;
    targets = s.targets;
  }

module _ (C : Catalogue) (W : World) (s : Shows C W) where
  next_in_pool : (x : ℕ) → x < W.v.used → (x ≡ 1 → ⊥) → W.v.next x < 256
  next_in_pool x h d = vertex_next_in C.vertices.link x (W.v.next x) (vertex_tag_of (W.v.marked x)) (s.vlinks x h d)

  pub shows_mark : (x : ℕ) → x < W.v.used → (x ≡ 1 → ⊥) → Shows (commit C (VertexLink x (W.v.next x) marked)) (with_v W (mark W.v x))
  shows_mark x h d =
      shows_link C W s x d (W.v.next x) (next_in_pool x h d) true W.v.next (upd W.v.marked x true) (another_tag W.v.next W.v.marked x true)

  -- p passes over its next c, which is not the tail; p is still unmarked
  pub shows_unlink : (p c : ℕ) → Inner W.v p → W.v.next p ≡ c → c < W.v.used → (c ≡ 1 → ⊥)
      → Shows (commit C (VertexLink p (W.v.next c) plain)) (with_v W (unlink W.v p))
  shows_unlink p c i lead h d =
      let n : ℕ = W.v.next (W.v.next p) in
      rw (← lead)
      (shows_link C W s p i.inner n (rw lead (next_in_pool c h d)) false (upd W.v.next p n) W.v.marked
      (rw i.plain at (another_next W.v.next W.v.marked p n)))

  -- A vertex not yet handed out has no edges: the owner of one is handed out.
  unborn : WGood W → W.e.first W.v.used ≡ 0
  unborn g =
      elim ((g.esound.sorted W.v.used).follows head tt (λ e. clash (cc))).inside [
        | inl e ↦ e
        | inr o ↦ let z = (g.ends (W.e.first W.v.used) o.low o.high).source_high in absurd (omega (arith, o.own))
      ]

  -- A new vertex after p. Its first link leads to the edge tail.
  module _ (g : WGood W) (room : W.v.used < 256) (p : ℕ) (i : Inner W.v p) (k : ℤ) where
    abbrev new : ℕ
    new = W.v.used

    abbrev X : World
    X = with_v W (insert W.v p k)

    abbrev D : Catalogue
    D = commit C (NewVertex new k (W.v.next p) p)

    p_old : p ≡ new → ⊥
    p_old e = omega (arith, i.high)

    new_inner : new ≡ 1 → ⊥
    new_inner e = omega (arith, g.good.sound.some)

    insert_keys : (x : ℕ) → x < suc new → vertex_key D x ≡ X.v.key x
    unfolding commit
    insert_keys x h =
        elim (same? x new) [
          | inl q ↦ rw (q, upd_same W.v.key new k) (vkey_there C.vertices.key new k new_inner)
          | inr n ↦ rw (upd_other W.v.key new k x n) (vkey_else C.vertices.key new k x n ∙ s.vkeys x (omega arith))
        ]

    insert_firsts : (x : ℕ) → 2 ≤ x → x < suc new → first_link D x ≡ some_link (X.e.first x) plain
    unfolding commit
    insert_firsts x l h =
        elim (same? x new) [
          | inl q ↦ rw (q, unborn g) (first_there C.vertices.first new 0 (omega arith))
          | inr n ↦ first_else C.vertices.first new (link 0 plain) x n ∙ s.firsts x l (omega arith)
        ]

    abbrev filled : ℕ → ℕ
    filled = upd C.vertices.link new (link (W.v.next p) plain)

    abbrev next_filled : ℕ → ℕ
    next_filled = upd W.v.next new (W.v.next p)

    insert_links : (x : ℕ) → x < suc new → (x ≡ 1 → ⊥) → vertex_link D x ≡ some_link (X.v.next x) (vertex_tag_of (X.v.marked x))
    unfolding commit
    insert_links x h d =
        elim (same? x p) [
          | inl q ↦
              rw (q, upd_same next_filled p new, upd_other W.v.marked new false p p_old, i.plain)
              (vertex_there filled p new false i.inner room)
          | inr n ↦
              rw (upd_other next_filled p new x n)
              (vertex_else filled p (link new plain) x n ∙ elim (same? x new) [
                | inl q ↦
                    rw (q, upd_same W.v.next new (W.v.next p), upd_same W.v.marked new false)
                    (vertex_there C.vertices.link new (W.v.next p) false new_inner (next_in_pool p i.high i.inner))
                | inr m ↦
                    rw (upd_other W.v.next new (W.v.next p) x m, upd_other W.v.marked new false x m)
                    (vertex_else C.vertices.link new (link (W.v.next p) plain) x m ∙ s.vlinks x (omega arith) d)
              ])
        ]

    counted : Shows D X
    unfolding commit
    counted = record {
      vertices = omega (arith, g.good.sound.some);
      vertices_fit = omega arith;
      edges = s.edges;
      edges_fit = s.edges_fit;
      vkeys = insert_keys;
      vlinks = insert_links;
      firsts = insert_firsts;
      ekeys = s.ekeys;
      elinks = s.elinks;
      targets = s.targets;
    }

    pub shows_insert : (c : ℕ) → W.v.next p ≡ c → Shows (commit C (NewVertex (2 + C.counts.vertices) k c p)) X
    shows_insert c e = rw (← e, ← s.vertices) counted
