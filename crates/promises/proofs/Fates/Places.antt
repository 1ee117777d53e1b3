-- The places that a request goes on to by its code are no trial's.
use Prim.Native.Nat.{ℕ}
use mathlib.Core.Bool.{Bool, true, false}
use mathlib.Core.Path.{◌≡◌, refl}
use lib.IntN.{ℤ}
use lib.Dec.{eqb}
use Rattle.catalogue.specs.Tests.{pick}
use Rattle.catalogue.specs.Steps.Places.{vertex_place, find_u_place, find_v_place, edge_place, edges_place, first_place}
use Rattle.catalogue.specs.declared.workers.Ends.{Ends}
use Rattle.catalogue.specs.declared.workers.Pair.{Pair}
use Rattle.catalogue.specs.declared.workers.Place.{Place}
use Rattle.catalogue.specs.declared.workers.Prev.{Prev}
use Rattle.catalogue.specs.declared.workers.Request.{Request}
use Rattle.promises.proofs.Fates.Told.{trying}

either : (t : Bool) (a b : Place) → trying a ≡ false → trying b ≡ false → trying (pick t a b) ≡ false
either true a b p q = p
either false a b p q = q

pub to_vertex : (code : ℕ) (k : ℤ) (p c : ℕ) → trying (vertex_place code k p c) ≡ false
unfolding vertex_place
to_vertex code k p c = either (eqb code 1) _ _ refl refl

pub to_u : (code : ℕ) (pair : Pair) (c : ℕ) → trying (find_u_place code pair c) ≡ false
unfolding find_u_place
to_u code pair c = either (eqb code 4) _ _ refl (either (eqb code 5) _ _ refl refl)

pub to_v : (code : ℕ) (pair : Pair) (u c : ℕ) → trying (find_v_place code pair u c) ≡ false
unfolding find_v_place
to_v code pair u c = either (eqb code 4) _ _ refl (either (eqb code 5) _ _ refl refl)

pub to_edge : (code : ℕ) (ends : Ends) (p : Prev) (c : ℕ) → trying (edge_place code ends p c) ≡ false
unfolding edge_place
to_edge code ends p c = either (eqb code 4) _ _ refl refl

pub to_edges : (code : ℕ) (ends : Ends) (c : ℕ) → trying (edges_place code ends c) ≡ false
unfolding edges_place
to_edges code ends c = either (eqb code 6) _ _ refl (to_edge code ends _ c)

pub to_first : (q : Request) (c : ℕ) → trying (first_place q c) ≡ false
unfolding first_place
to_first q c =
    either (eqb q.code 1) _ _ refl (either (eqb q.code 2) _ _ refl (either (eqb q.code 3) _ _ refl
    (either (eqb q.code 4) _ _ refl (either (eqb q.code 5) _ _ refl (either (eqb q.code 6) _ _ refl refl)))))
