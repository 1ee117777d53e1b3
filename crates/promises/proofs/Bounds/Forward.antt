-- Wherever a call with a bound stands, it is within its limit,
-- and its own step that is not replied to takes it further.
use Prim.Native.Nat.{ℕ, ◌≤◌}
use mathlib.Core.Bool.{Bool, false}
use native.Mathlib.Omega.{arith}
use Rattle.catalogue.specs.Workers.{count}
use Rattle.catalogue.specs.declared.workers.Worker.{Worker}
use Rattle.row.specs.Machine.Vertices.{Idle, AddV, RemV, ConV}
use Rattle.row.specs.Machine.World.{World, adds, rems, cons, Opened, closed, opened, Spot, Rest, Vert, FindU, FindV, LookE, ConE, Trial}
use Rattle.row.specs.Machine.Moves.{move}
use Rattle.row.proofs.Steps.Spots.{Ok}
use Rattle.row.proofs.Graphs.Good.{WGood}
use Rattle.promises.proofs.Showing.Shows.{Stands}
use Rattle.promises.proofs.Bounds.Far.{over, behind, far_in, far, limit, EnteredSpot, vertices_most, edges_most}
use Rattle.promises.proofs.Bounds.Looking.{OnlyFurther, con_v_further, find_u_further, find_v_further, con_e_further}
use Rattle.promises.proofs.Bounds.Trying.{trial_further, taken_most}

module _ (W : World) (few : W.v.used ≤ 256) (few_edges : W.e.used ≤ 2048) (w : Worker) where
  in_most : (taken : ℕ → Bool) (o : Opened) → count taken 256 ≤ 254 → far_in W taken o ≤ 2556
  in_most taken closed h = omega (arith, edges_most W few_edges (over taken))
  in_most taken (opened x c) h = omega (arith, edges_most W few_edges (behind taken x (W.e.key c)))

  pub far_most : (s : Spot) → Stands W.v.used w s → 1 ≤ limit s → far W s ≤ limit s
  far_most Rest p h = absurd (omega arith)
  far_most (Vert Idle) p h = absurd (omega arith)
  far_most (Vert (AddV k q c)) p h = absurd (omega arith)
  far_most (Vert (RemV k q c)) p h = absurd (omega arith)
  far_most (Vert (ConV k c)) p h = vertices_most W few c
  far_most (FindU adds k l c) p h = absurd (omega arith)
  far_most (FindU rems k l c) p h = absurd (omega arith)
  far_most (FindU cons k l c) p h = omega (arith, vertices_most W few c)
  far_most (FindV adds k l u c) p h = absurd (omega arith)
  far_most (FindV rems k l u c) p h = absurd (omega arith)
  far_most (FindV cons k l u c) p h = omega (arith, vertices_most W few c)
  far_most (LookE b k l u v q c) p h = absurd (omega arith)
  far_most (ConE k l u v c) p h = omega (arith, edges_most W few_edges (behind (λ x. false) u (W.e.key c)))
  far_most (Trial k l u v e z) p h = in_most z.taken z.stand (taken_most _ _ _ _ p.1.searched)

  pub goes_further : WGood W → (s : Spot) → Ok W s → Stands W.v.used w s → EnteredSpot s → 1 ≤ limit s → OnlyFurther W s (move W s)
  goes_further g Rest o p i h = absurd (omega arith)
  goes_further g (Vert Idle) o p i h = absurd (omega arith)
  goes_further g (Vert (AddV k q c)) o p i h = absurd (omega arith)
  goes_further g (Vert (RemV k q c)) o p i h = absurd (omega arith)
  goes_further g (Vert (ConV k c)) o p i h = con_v_further W g k c o.0 o.1
  goes_further g (FindU adds k l c) o p i h = absurd (omega arith)
  goes_further g (FindU rems k l c) o p i h = absurd (omega arith)
  goes_further g (FindU cons k l c) o p i h = find_u_further W g few k l c o.0 o.2
  goes_further g (FindV adds k l u c) o p i h = absurd (omega arith)
  goes_further g (FindV rems k l u c) o p i h = absurd (omega arith)
  goes_further g (FindV cons k l u c) o p i h = find_v_further W g few k l u c o.0 o.2
  goes_further g (LookE b k l u v q c) o p i h = absurd (omega arith)
  goes_further g (ConE k l u v c) o p i h = con_e_further W g k l u v c o.0.legal o.1
  goes_further g (Trial k l u v e z) o p i h = trial_further W g few k l u v e z p.1.searched o.2.place i
