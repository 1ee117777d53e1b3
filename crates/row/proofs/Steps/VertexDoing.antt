-- A step of a vertex operation has one of the outcomes in the whole world.
use mathlib.Core.Bool.{Bool}
use mathlib.Core.Path.{◌≡◌, refl, sym, ap, ◌∙◌}
use mathlib.Core.Logic.{inl, inr}
use lib.IntN.{ℤ}
use Rattle.row.specs.Lists.Store.{Cat, Step, rests}
use Rattle.row.specs.Machine.Vertices.{Request, Place, Idle, AddV, RemV, ConV, Out, live}
use Rattle.row.proofs.Steps.VertexDeeds.{VOk, VServes, VDid, on, now, full, walks, missed}
use Rattle.row.specs.Machine.World.{World, vert, Vert, Graph, edges, graph, between}
use Rattle.row.specs.Machine.Moves.{spot_of, vmove}
use Rattle.row.proofs.Graphs.Good.{WGood}
use Rattle.row.proofs.Graphs.Changes.{edges_vstep}
use Rattle.row.proofs.Steps.Spots.{Ok, Serves, own}
use Rattle.row.proofs.Steps.Writes.{deed_v, deed_rest}
use Rattle.row.proofs.Steps.Outcomes.{settled, con_on, con_miss, Did, does_on, does_now, does_out, does_past}

pub graph_path : {a b : ℤ → Bool} {c d : ℤ → ℤ → Bool} → a ≡ b → c ≡ d → ◌≡◌ {A = Graph} (record { v = a; e = c }) (record { v = b; e = d })
graph_path p q = rw (p, q)

ok_spot : (X : World) (to : Place) → VOk X.v to → Ok X (spot_of to)
ok_spot X Idle o = tt
ok_spot X (AddV k p c) o = o
ok_spot X (RemV k p c) o = o
ok_spot X (ConV k c) o = o

serves_spot : (q : Request) (to : Place) → VServes q to → Serves (vert q) (spot_of to)
serves_spot q Idle v = tt
serves_spot q (AddV k p c) v = (q, refl, v)
serves_spot q (RemV k p c) v = (q, refl, v)
serves_spot q (ConV k c) v = (q, refl, v)

own_spot : (to : Place) → own (spot_of to) ≡ 0
own_spot Idle = refl
own_spot (AddV k p c) = refl
own_spot (RemV k p c) = refl
own_spot (ConV k c) = refl

module _ (W : World) (g : WGood W) where
  pub same_between : edges W ≡ between (live W.v) (edges W)
  same_between = edges_vstep W g W.v rests

  graph_v : (D : Cat) → Step W.v D → live D ≡ live W.v → graph (record { v = D; e = W.e }) ≡ graph W
  graph_v D t l = graph_path l (edges_vstep W g D t ∙ (ap (λ h. between h (edges W)) l ∙ sym same_between))

  pub vert_did : (q : Request) (pl : Place) (o : Out) → VDid W.v q pl o → Did W (vert q) (Vert pl) (vmove W o)
  vert_did q pl o (on {D = D} to t l k v n) =
      does_on (spot_of to) (deed_v W g 0 D t) (graph_v D t l) (ok_spot (record { v = D; e = W.e }) to k) (serves_spot q to v) (inr (inr (own_spot to))) (settled to n (λ r. refl))
  vert_did q pl o (now {D = D} r n t e) = does_now r (deed_v W g 0 D t) (elim n [ inl z ↦ rw z | inr z ↦ rw z ]) (rw (e, edges_vstep W g D t))
  vert_did q pl o full = does_out 9 (deed_rest W g 0) refl refl
  vert_did q pl o (walks k c e z h n i) = does_on (Vert (ConV k (W.v.next c))) (deed_rest W g 0) refl i (q, refl, z) (inl refl) (rw e (con_on k c h n))
  vert_did q pl o (missed k c e z m) = does_past 2 (deed_rest W g 0) refl refl (rw (z, e) (con_miss k c m))
