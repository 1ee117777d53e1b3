-- A new edge: it is filled, on trial, while no link leads to it; then p's link is turned to it.
use Prim.Native.Nat.{ℕ, suc, ◌≤◌, ◌<◌}
use mathlib.Core.Path.{◌≡◌, refl, ◌∙◌}
use mathlib.Core.Logic.{inl, inr}
use native.Mathlib.Omega.{arith}
use lib.IntN.{ℤ}
use Rattle.catalogue.specs.Numbers.{some_link}
use Rattle.catalogue.specs.Tests.{upd}
use Rattle.catalogue.specs.Numbers as numbers
use Rattle.catalogue.specs.Catalogue.{Catalogue, edge_key, edge_link, edge_target}
use Rattle.catalogue.specs.Writes.{commit, with_edge}
use Rattle.catalogue.specs.Steps.Edges.{relink, insert}
use Rattle.std.proofs.Common.{Some}
use Rattle.row.proofs.Base.{upd_same, upd_other, same?}
use Rattle.row.specs.Lists.Edges.{Tag, transit, Prev, head, at, Edges, link, einsert}
use Rattle.row.specs.Machine.World.{World, with_e}
use Rattle.promises.proofs.Showing.Shows.{Shows, prev_of, edge_tag_of}
use Rattle.promises.proofs.Showing.EdgeLinks.{Behind, tag_behind, shows_relink}
use Rattle.promises.proofs.Showing.Written.{edge_there, edge_else, ekey_there, ekey_else, target_there, target_else}
use Rattle.catalogue.specs.declared.workers.Ends.{Ends}

-- ---- an edge on trial, which no link leads to yet

abbrev filled : Edges → ℕ → ℕ → ℤ → ℕ → Edges
filled E u v l c = record {
  first = E.first;
  next = upd E.next E.used c;
  tag = upd E.tag E.used transit;
  key = upd E.key E.used l;
  target = upd E.target E.used v;
  owner = upd E.owner E.used u;
  used = suc E.used;
}

module _ (C : Catalogue) (W : World) (s : Shows C W) (some : 1 ≤ W.e.used) (left : W.e.used < 2048)
    (u v : ℕ) (l : ℤ) (c : ℕ) (low : v < 256) (fits : c < 2048) where
  abbrev n : ℕ
  n = W.e.used

  new_key : (e : ℕ) → e < suc n → edge_key (with_edge C n l v c) e ≡ upd W.e.key n l e
  new_key e h =
      elim (same? e n) [
        | inl q ↦ rw (q, upd_same W.e.key n l) (ekey_there C.edges.key n l some)
        | inr d ↦ rw (upd_other W.e.key n l e d) (ekey_else C.edges.key n l e d ∙ s.ekeys e (omega arith))
      ]

  new_link : (e : ℕ) → 1 ≤ e → e < suc n → edge_link (with_edge C n l v c) e ≡ some_link (upd W.e.next n c e) (edge_tag_of (upd W.e.tag n transit e))
  new_link e i h =
      elim (same? e n) [
        | inl q ↦ rw (q, upd_same W.e.next n c, upd_same W.e.tag n transit) (edge_there C.edges.link n c transit some left fits)
        | inr d ↦
            rw (upd_other W.e.next n c e d, upd_other W.e.tag n transit e d)
            (edge_else C.edges.link n (numbers.link c numbers.transit) e d ∙ s.elinks e i (omega arith))
      ]

  new_target : (e : ℕ) → 1 ≤ e → e < suc n → edge_target (with_edge C n l v c) e ≡ Some (upd W.e.target n v e)
  new_target e i h =
      elim (same? e n) [
        | inl q ↦ rw (q, upd_same W.e.target n v) (target_there C.edges.target n v low)
        | inr d ↦ rw (upd_other W.e.target n v e d) (target_else C.edges.target n v e d ∙ s.targets e i (omega arith))
      ]

  shows_fill : Shows (with_edge C n l v c) (with_e W (filled W.e u v l c))
  shows_fill = record {
    vertices = s.vertices;
    vertices_fit = s.vertices_fit;
    edges = omega arith;
    edges_fit = omega arith;
    vkeys = s.vkeys;
    vlinks = s.vlinks;
    firsts = s.firsts;
    ekeys = new_key;
    elinks = new_link;
    targets = new_target;
  }

-- ---- inserting

behind_more : (used : ℕ) (p : Prev) → Behind used p → Behind (suc used) p
behind_more used head b = tt
behind_more used (at p) b = (b.0, omega (arith, b.1))

-- p keeps its tag
tag_kept : (tag : ℕ → Tag) (used : ℕ) (p : Prev) → Behind used p → tag_behind (upd tag used transit) p ≡ tag_behind tag p
tag_kept tag used head b = refl
tag_kept tag used (at p) b = rw (upd_other tag used transit p (λ q. omega (arith, b.1)))

insert_is : (C : Catalogue) (ends : Ends) (p : Prev) (kept n c : ℕ)
    → commit (with_edge C n ends.pair.l ends.v c) (relink ends.u (prev_of p) kept n) ≡ commit C (insert ends (prev_of p) kept n c)
unfolding commit
insert_is C ends head kept n c = refl
insert_is C ends (at p) kept n c = refl

pub shows_insert : (C : Catalogue) (W : World) → Shows C W → 1 ≤ W.e.used → W.e.used < 2048 → (ends : Ends) (p : Prev) (c : ℕ)
    → ends.v < 256 → Behind W.e.used p → link W.e ends.u p ≡ c → c < 2048
    → Shows (commit C (insert ends (prev_of p) (tag_behind W.e.tag p) W.e.used c)) (with_e W (einsert W.e ends.u ends.v ends.pair.l p))
shows_insert C W s some left ends p c low b lead fits =
    let n = W.e.used in
    let f = shows_fill C W s some left ends.u ends.v ends.pair.l c low fits in
    let r = shows_relink (with_edge C n ends.pair.l ends.v c) (with_e W (filled W.e ends.u ends.v ends.pair.l c)) f n left ends.u p (behind_more n p b) in
    rw (← insert_is C ends p (tag_behind W.e.tag p) n c, lead) (rw (tag_kept W.e.tag n p b) at r)
