-- A step on the way to the two vertices of a pair has one of the outcomes.
use Prim.Native.Nat.{ℕ, ◌<◌}
use mathlib.Core.Bool.{Bool, true, false, cond, not, ◌&&◌}
use mathlib.Core.Path.{◌≡◌, refl}
use mathlib.Core.Logic.{inl, inr}
use native.Mathlib.Omega.{arith}
use lib.IntN.{ℤ}
use lib.Signed.{◌<ℤ◌, lt_z}
use Rattle.laws.proofs.Picks.{clash}
use Rattle.row.proofs.Base.{lt_z_true}
use Rattle.row.specs.Lists.Store.{Cat}
use Rattle.catalogue.specs.Tests.{eq_z}
use Rattle.laws.proofs.Rules.{eq_z_eq}
use Rattle.row.proofs.Tests.{eq_z_yes, not_below}
use Rattle.row.proofs.Steps.VertexDeeds.{Legal, Missed, not_tail, not_head}
use Rattle.row.specs.Lists.Edges.{head}
use Rattle.row.specs.Machine.World.{World, Ask, Kind, adds, rems, cons, ask_of, FindU, FindV, in_row}
use Rattle.row.specs.Machine.Moves.{VSeen, lower, found, missing, vlook, lost, find_u, look_at, find_v}
use Rattle.row.proofs.Graphs.Good.{WGood}
use Rattle.row.proofs.Graphs.Graph.{IsV}
use Rattle.row.proofs.Steps.Spots.{EAims, Pair, Ok, Serves, own}
use Rattle.row.proofs.Steps.Writes.{deed_rest}
use Rattle.row.proofs.Steps.Outcomes.{u_on, u_found, v_on, v_found, u_miss, v_miss, Did, does_on, does_past}

pub data VMeans (C : Cat) (k : ℤ) (c : ℕ) : VSeen → Type 0 where
  is_lower : C.key c <ℤ k → VMeans C k c lower
  is_found : C.key c ≡ k → C.marked c ≡ false → VMeans C k c found
  is_missing : Missed C k c → VMeans C k c missing

pub vmeans : (C : Cat) (k : ℤ) (c : ℕ) → VMeans C k c (vlook C k c)
vmeans C k c = by (lt_z (C.key c) k) (eq_z (C.key c) k) (C.marked c) refl refl refl
  where
    by : (x y z : Bool) → lt_z (C.key c) k ≡ x → eq_z (C.key c) k ≡ y → C.marked c ≡ z → VMeans C k c (cond x lower (cond (y && not z) found missing))
    by true y z f h m = is_lower (lt_z_true (C.key c) k f)
    by false true true f h m = is_missing (inl (eq_z_eq (C.key c) k h, m))
    by false true false f h m = is_found (eq_z_eq (C.key c) k h) m
    by false false z f h m = is_missing (elim (not_below (C.key c) k f) [ inl j ↦ clash (cc (eq_z_yes (C.key c) k j)) | inr j ↦ inr j ])

lost_row : (q : Kind) → in_row (lost q) ≡ true
lost_row adds = refl
lost_row rems = refl
lost_row cons = refl

module _ (W : World) (g : WGood W) where
  vnext : (c : ℕ) → c < W.v.used → (c ≡ 1 → ⊥) → W.v.next c < W.v.used
  vnext c h n = (g.good.sound.sorted.follows c h n).inside

  pub vfirst : W.v.next 0 < W.v.used
  vfirst = vnext 0 (omega (arith, g.good.sound.some)) (λ e. omega arith)

  is_v : (k : ℤ) → Legal k → (c : ℕ) → c < W.v.used → W.v.key c ≡ k → IsV W.v k c
  is_v k l c h e =
      let n = not_tail W.v g.good k l {c = c} (inr e) in
      let m = not_head W.v g.good k l {c = c} e in
      record { low = omega arith; high = h; holds = e }

  pub u_did : (d : Kind) (k l : ℤ) (c : ℕ) → Legal k → Legal l → c < W.v.used → (q : Ask) → q ≡ ask_of d k l → (z : VSeen) → VMeans W.v k c z → Did W q (FindU d k l c) (find_u W d k l c z)
  u_did d k l c a b h q e lower (is_lower j) =
      let n = not_tail W.v g.good k a {c = c} (inl j) in
      does_on (FindU d k l (W.v.next c)) (deed_rest W g 0) refl (a, b, vnext c h n) e (inl refl) (u_on d k l c j n)
  u_did d k l c a b h q e found (is_found j m) =
      does_on (FindV d k l c (W.v.next 0)) (deed_rest W g 0) refl (b, is_v k a c h j, vfirst) e (inl refl) (u_found d k l c j m h b)
  u_did d k l c a b h q e missing (is_missing m) = does_past (lost d) (deed_rest W g 0) (lost_row d) refl (rw e (u_miss d k l c m))

  pub aims_head : (u : ℕ) (l : ℤ) → Legal l → EAims W.e u l head
  aims_head u l a = record { inside = tt; inner = λ e. clash (cc); below = a.low }

  look_ok : (d : Kind) (k l : ℤ) (u v : ℕ) → Pair W k l u v → Ok W (look_at W d k l u v)
  look_ok adds k l u v p = (p, aims_head u l p.legal)
  look_ok rems k l u v p = (p, aims_head u l p.legal)
  look_ok cons k l u v p = (p, ((g.esound.sorted u).follows head tt (λ e. clash (cc))).inside)

  look_serves : (d : Kind) (k l : ℤ) (u v : ℕ) (q : Ask) → q ≡ ask_of d k l → Serves q (look_at W d k l u v)
  look_serves adds k l u v q e = e
  look_serves rems k l u v q e = e
  look_serves cons k l u v q e = e

  look_own : (d : Kind) (k l : ℤ) (u v : ℕ) → own (look_at W d k l u v) ≡ 0
  look_own adds k l u v = refl
  look_own rems k l u v = refl
  look_own cons k l u v = refl

  pub v_did : (d : Kind) (k l : ℤ) (u c : ℕ) → Legal l → IsV W.v k u → c < W.v.used → (q : Ask) → q ≡ ask_of d k l → (z : VSeen) → VMeans W.v l c z → Did W q (FindV d k l u c) (find_v W d k l u c z)
  v_did d k l u c b i h q e lower (is_lower j) =
      let n = not_tail W.v g.good l b {c = c} (inl j) in
      does_on (FindV d k l u (W.v.next c)) (deed_rest W g 0) refl (b, i, vnext c h n) e (inl refl) (v_on d k l u c j n)
  v_did d k l u c b i h q e found (is_found j m) =
      does_on (look_at W d k l u c) (deed_rest W g 0) refl
      (look_ok d k l u c (record { legal = b; source = i; goal = is_v l b c h j })) (look_serves d k l u c q e) (inl (look_own d k l u c)) (v_found d k l u c j m h b)
  v_did d k l u c b i h q e missing (is_missing m) = does_past (lost d) (deed_rest W g 0) (lost_row d) refl (rw e (v_miss d k l u c m))
