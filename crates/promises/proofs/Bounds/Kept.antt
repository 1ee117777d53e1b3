-- Others' steps keep a call as far as it was: keys and owners are unchanged, and nodes are only added.
use Prim.Native.Nat.{ℕ, zero, suc, ◌≤◌, ◌<◌}
use mathlib.Core.Bool.{Bool, false}
use mathlib.Core.Logic.{inl, inr}
use mathlib.Core.Path.{◌≡◌, refl}
use native.Mathlib.Omega.{arith}
use borrow.Author.Tests.{leb-true}
use lib.Dec.{leb}
use lib.IntN.{ℤ}
use Rattle.row.specs.Machine.Vertices.{Idle, AddV, RemV, ConV}
use Rattle.row.specs.Lists.Edges.{at, InList, Mine}
use Rattle.row.specs.Machine.World.{World, Opened, closed, opened, Spot, Rest, Vert, FindU, FindV, LookE, ConE, Trial}
use Rattle.row.proofs.Tests.{and_true}
use Rattle.row.proofs.Graphs.Good.{WGood}
use Rattle.row.proofs.Steps.Spots.{StandOk, Ok}
use Rattle.row.proofs.Events.Fine.{Both, more_vertices}
use Rattle.promises.proofs.Bounds.Counting.{count_le}
use Rattle.promises.proofs.Bounds.Far.{below, vertices_passed, among, edges_that, over, behind, far_in, far}

module _ (W X : World) (b : Both W X) (g : WGood W) (g' : WGood X) where
  vertices_kept : (c : ℕ) → c < W.v.used → vertices_passed W c ≤ vertices_passed X c
  vertices_kept c h =
      rw (b.vm.key_kept c h)
      (count_le (below W.v.key (W.v.key c)) (below X.v.key (W.v.key c)) W.v.used X.v.used (more_vertices g b) (λ x l t. rw (b.vm.key_kept x l) t))

  -- an edge keeps its owner
  module _ (e : ℕ) (low : 1 ≤ e) (high : e < W.e.used) where
    listed : Mine W.e (W.e.owner e) (at e)
    listed = inr (record { low = low; high = high; own = refl })

    owned : InList X.e (W.e.owner e) e
    owned = elim ((b.em (W.e.owner e)).stays (at e) listed) [ inl z ↦ absurd (omega arith) | inr o ↦ o ]

    key_stays : X.e.key e ≡ W.e.key e
    key_stays = (b.em (W.e.owner e)).key_kept (at e) listed

  more_edges : W.e.used ≤ X.e.used
  more_edges = by W.e.used g'.esound.some (λ e l h. (owned e l h).high)
    where
      by : (n : ℕ) {m : ℕ} → 1 ≤ m → ((x : ℕ) → 1 ≤ x → x < n → x < m) → n ≤ m
      by zero h s = omega arith
      by (suc zero) h s = h
      by (suc (suc n)) h s = s (suc n) (omega arith) (omega arith)

  edges_kept : (test : ℕ → ℤ → Bool) → edges_that W test ≤ edges_that X test
  edges_kept test =
      count_le (among W.e.owner W.e.key test) (among X.e.owner X.e.key test) W.e.used X.e.used more_edges
      (λ e h t.
      let z = and_true (leb 1 e) (test (W.e.owner e) (W.e.key e)) t in
      let low = leb-true 1 e z.0 in
      rw ((owned e low h).own, key_stays e low h) t)

  passed_kept : (done : ℕ → Bool) (x c : ℕ) → Mine W.e x (at c) → edges_that W (behind done x (W.e.key c)) ≤ edges_that X (behind done x (X.e.key c))
  passed_kept done x c m = rw ((b.em x).key_kept (at c) m) (edges_kept (behind done x (W.e.key c)))

  in_kept : (taken : ℕ → Bool) (o : Opened) → StandOk W o → far_in W taken o ≤ far_in X taken o
  in_kept taken closed p = omega (arith, edges_kept (over taken))
  in_kept taken (opened x c) p = omega (arith, passed_kept taken x c p)

  pub far_kept : (s : Spot) → Ok W s → far W s ≤ far X s
  far_kept Rest o = omega arith
  far_kept (Vert Idle) o = omega arith
  far_kept (Vert (AddV k p c)) o = omega arith
  far_kept (Vert (RemV k p c)) o = omega arith
  far_kept (Vert (ConV k c)) o = vertices_kept c o.1
  far_kept (FindU q k l c) o = vertices_kept c o.2
  far_kept (FindV q k l u c) o = omega (arith, vertices_kept c o.2)
  far_kept (LookE d k l u v p c) o = omega arith
  far_kept (ConE k l u v c) o = omega (arith, passed_kept (λ x. false) u c o.1)
  far_kept (Trial k l u v e h) o = in_kept h.taken h.stand o.2.place
