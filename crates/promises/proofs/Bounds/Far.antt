-- How far a call has come that has a bound: what it can no longer visit, which cannot exceed the pools.
use Prim.Native.Nat.{ℕ, ◌+◌, ◌*◌, ◌≤◌, ◌<◌}
use mathlib.Core.Bool.{Bool, true, false, not, ◌&&◌}
use mathlib.Core.Path.{◌≡◌, refl}
use native.Mathlib.Omega.{arith}
use lib.Dec.{eqb, leb}
use lib.IntN.{ℤ}
use lib.Signed.{lt_z}
use Rattle.catalogue.specs.Tests.{pick}
use Rattle.catalogue.specs.Workers.{count}
use Rattle.row.specs.Machine.Vertices.{Idle, AddV, RemV, ConV}
use Rattle.row.specs.Machine.World.{World, adds, rems, cons, Opened, closed, opened, Spot, Rest, Vert, FindU, FindV, LookE, ConE, Trial}
use Rattle.row.proofs.Tests.{and_true}
use Rattle.promises.proofs.Bounds.Counting.{count_le}

-- ---- what is passed

-- a vertex below a key; the tail is never passed
abbrev pub below : (ℕ → ℤ) → ℤ → ℕ → Bool
below key k x = not (eqb x 1) && lt_z (key x) k

abbrev pub vertices_passed : World → ℕ → ℕ
vertices_passed W c = count (below W.v.key (W.v.key c)) W.v.used

-- the edges that pass a test of their owner and key
abbrev pub among : (ℕ → ℕ) → (ℕ → ℤ) → (ℕ → ℤ → Bool) → ℕ → Bool
among owner key test e = leb 1 e && test (owner e) (key e)

abbrev pub edges_that : World → (ℕ → ℤ → Bool) → ℕ
edges_that W test = count (among W.e.owner W.e.key test) W.e.used

-- the owner is done with; or it is x, and the key is below k
abbrev pub over : (ℕ → Bool) → ℕ → ℤ → Bool
over done o j = done o

abbrev pub behind : (ℕ → Bool) → ℕ → ℤ → ℕ → ℤ → Bool
behind done x k o j = pick (eqb o x) (lt_z j k) (done o)

-- ---- how far a call has come

-- a trial: two steps for each vertex taken, but one for the open vertex, and one for each edge passed
abbrev pub far_in : World → (ℕ → Bool) → Opened → ℕ
far_in W taken closed = 1 + 2 * count taken 256 + edges_that W (over taken)
far_in W taken (opened x c) = 2 * count taken 256 + edges_that W (behind taken x (W.e.key c))

-- in a walk over vertices those below the key where it stands, the head among them;
-- a walk over edges comes after two such walks
abbrev pub far : World → Spot → ℕ
far W Rest = 0
far W (Vert Idle) = 0
far W (Vert (AddV k p c)) = 0
far W (Vert (RemV k p c)) = 0
far W (Vert (ConV k c)) = vertices_passed W c
far W (FindU q k l c) = vertices_passed W c
far W (FindV q k l u c) = 255 + vertices_passed W c
far W (LookE b k l u v p c) = 0
far W (ConE k l u v c) = 511 + edges_that W (behind (λ x. false) u (W.e.key c))
far W (Trial k l u v e h) = far_in W h.taken h.stand

-- how far it can come at most; 0: there is no bound
abbrev pub limit : Spot → ℕ
limit Rest = 0
limit (Vert Idle) = 0
limit (Vert (AddV k p c)) = 0
limit (Vert (RemV k p c)) = 0
limit (Vert (ConV k c)) = 255
limit (FindU adds k l c) = 0
limit (FindU rems k l c) = 0
limit (FindU cons k l c) = 2558
limit (FindV adds k l u c) = 0
limit (FindV rems k l u c) = 0
limit (FindV cons k l u c) = 2558
limit (LookE b k l u v p c) = 0
limit (ConE k l u v c) = 2558
limit (Trial k l u v e h) = 2556

-- the open vertex of a trial was taken
abbrev pub Entered : (ℕ → Bool) → Opened → Type 0
Entered taken closed = Unit {0}
Entered taken (opened x c) = taken x ≡ true

abbrev pub EnteredSpot : Spot → Type 0
EnteredSpot Rest = Unit {0}
EnteredSpot (Vert p) = Unit {0}
EnteredSpot (FindU q k l c) = Unit {0}
EnteredSpot (FindV q k l u c) = Unit {0}
EnteredSpot (LookE b k l u v p c) = Unit {0}
EnteredSpot (ConE k l u v c) = Unit {0}
EnteredSpot (Trial k l u v e h) = Entered h.taken h.stand

-- ---- the pools

all_but_tail : count (λ x. not (eqb x 1)) 256 ≡ 255
unfolding count
all_but_tail = refl

all_edges : count (leb 1) 2048 ≡ 2047
unfolding count
all_edges = refl

pub vertices_most : (W : World) → W.v.used ≤ 256 → (c : ℕ) → vertices_passed W c ≤ 255
vertices_most W few c =
    let h : (x : ℕ) → x < W.v.used → below W.v.key (W.v.key c) x ≡ true → not (eqb x 1) ≡ true =
    λ x l t. (and_true (not (eqb x 1)) (lt_z (W.v.key x) (W.v.key c)) t).0 in
    omega (arith, all_but_tail, count_le (below W.v.key (W.v.key c)) (λ x. not (eqb x 1)) W.v.used 256 few h)

pub edges_most : (W : World) → W.e.used ≤ 2048 → (test : ℕ → ℤ → Bool) → edges_that W test ≤ 2047
edges_most W few test =
    let h : (e : ℕ) → e < W.e.used → among W.e.owner W.e.key test e ≡ true → leb 1 e ≡ true =
    λ e l t. (and_true (leb 1 e) (test (W.e.owner e) (W.e.key e)) t).0 in
    omega (arith, all_edges, count_le (among W.e.owner W.e.key test) (leb 1) W.e.used 2048 few h)
