-- What one step of one worker may come to, for all six operations, whatever the history.
use Prim.Native.Nat.{ℕ, ◌<◌}
use mathlib.Core.Bool.{Bool, true, false}
use mathlib.Core.Path.{◌≡◌, refl}
use mathlib.Core.Logic.{◌⊎◌, inr}
use lib.IntN.{ℤ}
use lib.Signed.{◌<ℤ◌}
use Rattle.row.specs.Machine.Vertices.{conV, Place, ConV}
use Rattle.row.proofs.Steps.VertexDeeds.{Legal, Looks, Missed}
use Rattle.row.specs.Lists.Edges.{Prev, is_marked}
use Rattle.row.specs.Machine.World.{World, Ask, vert, addE, conE, Kind, ask_of, Hunt, hunt_from, Spot, Vert, FindU, FindV, LookE, ConE, Trial, Next, goes, says, graph, alone, in_row}
use Rattle.row.specs.Machine.Moves.{spot_of, lost, look_at}
use Rattle.row.specs.Machine.Choices.{resting}
use Rattle.row.proofs.Steps.Spots.{Pair, Ok, edit, Serves, own}
use Rattle.row.proofs.Steps.Deeds.{Deed}

-- how a spot leads to the next
pub data Goes (W : World) : Spot → Spot → Type 0 where
  settled : {pl : Spot} (to : Place) → Looks to → (resting (spot_of to) ≡ false → resting pl ≡ false) → Goes W pl (spot_of to)
  con_on : (k : ℤ) (c : ℕ) → W.v.key c <ℤ k → (c ≡ 1 → ⊥) → Goes W (Vert (ConV k c)) (Vert (ConV k (W.v.next c)))
  u_on : (q : Kind) (k l : ℤ) (c : ℕ) → W.v.key c <ℤ k → (c ≡ 1 → ⊥) → Goes W (FindU q k l c) (FindU q k l (W.v.next c))
  u_found : (q : Kind) (k l : ℤ) (c : ℕ) → W.v.key c ≡ k → W.v.marked c ≡ false → c < W.v.used → Legal l → Goes W (FindU q k l c) (FindV q k l c (W.v.next 0))
  v_on : (q : Kind) (k l : ℤ) (u c : ℕ) → W.v.key c <ℤ l → (c ≡ 1 → ⊥) → Goes W (FindV q k l u c) (FindV q k l u (W.v.next c))
  v_found : (q : Kind) (k l : ℤ) (u c : ℕ) → W.v.key c ≡ l → W.v.marked c ≡ false → c < W.v.used → Legal l → Goes W (FindV q k l u c) (look_at W q k l u c)
  e_looks : (b : Bool) (k l : ℤ) (u v : ℕ) (p r : Prev) (c d : ℕ) → Goes W (LookE b k l u v p c) (LookE b k l u v r d)
  e_walks : (k l : ℤ) (u v c : ℕ) → W.e.key c <ℤ l → (c ≡ 0 → ⊥) → Goes W (ConE k l u v c) (ConE k l u v (W.e.next c))
  e_tries : (b : Bool) (k l : ℤ) (u v : ℕ) (p : Prev) (c e : ℕ) → Goes W (LookE b k l u v p c) (Trial k l u v e (hunt_from v))
  e_trying : (k l : ℤ) (u v e : ℕ) (h i : Hunt) → Goes W (Trial k l u v e h) (Trial k l u v e i)

abbrev pub EMissed : World → ℤ → ℕ → Type 0
EMissed W l c = ((W.e.key c ≡ l) × (is_marked (W.e.tag c) ≡ true)) ⊎ (l <ℤ W.e.key c)

abbrev pub DeadV : World → ℕ → ℕ → Type 0
DeadV W u v = (W.v.marked u ≡ true) ⊎ (W.v.marked v ≡ true)

-- replies that rest on the past
pub data Misses (W : World) : Ask → Spot → ℕ → Type 0 where
  con_miss : (k : ℤ) (c : ℕ) → Missed W.v k c → Misses W (vert (conV k)) (Vert (ConV k c)) 2
  u_miss : (q : Kind) (k l : ℤ) (c : ℕ) → Missed W.v k c → Misses W (ask_of q k l) (FindU q k l c) (lost q)
  v_miss : (q : Kind) (k l : ℤ) (u c : ℕ) → Missed W.v l c → Misses W (ask_of q k l) (FindV q k l u c) (lost q)
  look_dead : (b : Bool) (k l : ℤ) (u v : ℕ) (p : Prev) (c : ℕ) → DeadV W u v → Pair W k l u v → Misses W (edit b k l) (LookE b k l u v p c) 3
  try_dead : (k l : ℤ) (u v e : ℕ) (h : Hunt) → DeadV W u v → Pair W k l u v → Misses W (addE k l) (Trial k l u v e h) 3
  con_dead : (k l : ℤ) (u v c : ℕ) → DeadV W u v → Pair W k l u v → Misses W (conE k l) (ConE k l u v c) 8
  edge_miss : (k l : ℤ) (u v c : ℕ) → W.v.marked u ≡ false → Pair W k l u v → EMissed W l c → Misses W (conE k l) (ConE k l u v c) 8

pub data Did (W : World) (q : Ask) (pl : Spot) : Next → Type 0 where
  does_on : {X : World} (to : Spot) → Deed W X (own pl) → graph X ≡ graph W → Ok X to → Serves q to → (own to ≡ own pl) ⊎ (own to ≡ W.e.used) ⊎ (own to ≡ 0)
      → Goes W pl to → Did W q pl (goes X to)
  does_now : {X : World} (r : ℕ) → Deed W X (own pl) → in_row r ≡ true → alone (graph W) q ≡ (r, graph X) → Did W q pl (says X r)
  does_out : {X : World} (r : ℕ) → Deed W X (own pl) → in_row r ≡ false → graph X ≡ graph W → Did W q pl (says X r)
  does_past : {X : World} (r : ℕ) → Deed W X (own pl) → in_row r ≡ true → graph X ≡ graph W → Misses W q pl r → Did W q pl (says X r)

pub did_deed : {W : World} {q : Ask} {pl : Spot} {o : Next} → Did W q pl o → Deed W o.world (own pl)
did_deed (does_on to d g k v n w) = d
did_deed (does_now r d n e) = d
did_deed (does_out r d n e) = d
did_deed (does_past r d n e m) = d

pub did_ok : {W : World} {q : Ask} {pl : Spot} {o : Next} → Did W q pl o → Ok o.world o.spot
did_ok (does_on to d g k v n w) = k
did_ok (does_now r d n e) = tt
did_ok (does_out r d n e) = tt
did_ok (does_past r d n e m) = tt

pub did_own : {W : World} {q : Ask} {pl : Spot} {o : Next} → Did W q pl o → (own o.spot ≡ own pl) ⊎ (own o.spot ≡ W.e.used) ⊎ (own o.spot ≡ 0)
did_own (does_on to d g k v n w) = n
did_own (does_now r d n e) = inr (inr refl)
did_own (does_out r d n e) = inr (inr refl)
did_own (does_past r d n e m) = inr (inr refl)

-- a worker that is busy after a step that goes on was busy before
pub busy_before : {W : World} {pl to : Spot} → Goes W pl to → resting to ≡ false → resting pl ≡ false
busy_before (settled t l f) r = f r
busy_before (con_on k c j m) r = refl
busy_before (u_on q k l c j m) r = refl
busy_before (u_found q k l c e m i b) r = refl
busy_before (v_on q k l u c j m) r = refl
busy_before (v_found q k l u c e m i b) r = refl
busy_before (e_looks b k l u v p x c d) r = refl
busy_before (e_walks k l u v c j m) r = refl
busy_before (e_tries b k l u v p c e) r = refl
busy_before (e_trying k l u v e h i) r = refl
