-- A deed: what a step does to the world, as far as the other workers go; what is known of them is unchanged.
use Prim.Native.Nat.{ℕ, ◌≤◌, ◌<◌}
use mathlib.Core.Path.{◌≡◌, sym, ◌∙◌}
use mathlib.Core.Logic.{inl, inr}
use native.Mathlib.Omega.{arith}
use lib.IntN.{ℤ}
use Rattle.row.proofs.Lists.Hindsight.{Moves}
use Rattle.row.specs.Lists.Store.{Cat, view}
use Rattle.row.proofs.Steps.VertexDeeds.{vok_up}
use Rattle.row.specs.Lists.Edges.{transit, head, at, Edges, eview}
use Rattle.row.specs.Machine.World.{World, Opened, closed, opened, Hunt, Spot, Rest, Vert, FindU, FindV, LookE, ConE, Trial}
use Rattle.row.proofs.Graphs.Older.{LiveE}
use Rattle.row.proofs.Graphs.Good.{WGood}
use Rattle.row.proofs.Graphs.Graph.{IsV}
use Rattle.row.proofs.Steps.Spots.{Pair, Ahead, StandOk, HuntOk, Ok, own}

pub record Fixed (E F : Edges) (e : ℕ) : Type 0 where
  pub stays : e < F.used
  pub owner_same : F.owner e ≡ E.owner e
  pub target_same : F.target e ≡ E.target e
  pub key_same : F.key e ≡ E.key e

pub record Deed (W X : World) (mine : ℕ) : Type 0 where
  pub good : WGood X
  pub vmoves : Moves 0 1 (view W.v) (view X.v)
  pub emoves : (u : ℕ) → Moves head (at 0) (eview W.e u) (eview X.e u)
  pub fixed : (e : ℕ) → 1 ≤ e → e < W.e.used → Fixed W.e X.e e
  pub trials : (e : ℕ) → 1 ≤ e → e < W.e.used → W.e.tag e ≡ transit → (e ≡ mine → ⊥) → X.e.tag e ≡ transit
  pub shrinks : (f : ℕ) → f < W.e.used → LiveE X f → LiveE W f

isv_up : {C D : Cat} {k : ℤ} {u : ℕ} → Moves 0 1 (view C) (view D) → IsV C k u → IsV D k u
isv_up {u = u} m i = record { low = i.low; high = m.stays u i.high; holds = m.key_kept u i.high ∙ i.holds }

pub pair_up : {W X : World} {n : ℕ} {k l : ℤ} {u v : ℕ} → Deed W X n → Pair W k l u v → Pair X k l u v
pair_up d p = record { legal = p.legal; source = isv_up d.vmoves p.source; goal = isv_up d.vmoves p.goal }

stand_up : (W X : World) (n : ℕ) → Deed W X n → (o : Opened) → StandOk W o → StandOk X o
stand_up W X n d closed p = tt
stand_up W X n d (opened x c) p = (d.emoves x).stays (at c) p

ahead_up : (W X : World) (n : ℕ) → Deed W X n → (o : Opened) (f : ℕ) → StandOk W o → LiveE X f → X.e.owner f ≡ W.e.owner f → Ahead W o f → Ahead X o f
ahead_up W X n d closed f p l e a = a
ahead_up W X n d (opened x c) f p l e a = (a.0 ∙ sym e, (d.emoves x).runs_kept (at c) (at f) p a.1 l.plain)

hunt_up : (W X : World) (n : ℕ) → Deed W X n → (u v e : ℕ) (h : Hunt) → e < W.e.used → HuntOk W u v e h → HuntOk X u v e h
hunt_up W X n d u v e h b o = record {
  kept = o.kept;
  target_met = o.target_met;
  not_u = o.not_u;
  place = stand_up W X n d h.stand o.place;
  covered = λ f l i t.
      let j : f < W.e.used = omega arith in
      let w = d.fixed f l.low j in
      elim (o.covered f (d.shrinks f j l) i (rw w.owner_same at t)) [
        | inl m ↦ inl (rw w.target_same m)
        | inr a ↦ inr (ahead_up W X n d h.stand f o.place l w.owner_same a)
      ];
}

pub ok_up : (W X : World) (n : ℕ) → Deed W X n → (pl : Spot) → (1 ≤ own pl → own pl ≡ n → ⊥) → Ok W pl → Ok X pl
ok_up W X n d Rest h o = tt
ok_up W X n d (Vert pl) h o = vok_up W.v X.v d.vmoves pl o
ok_up W X n d (FindU q k l c) h o = (o.0, o.1, d.vmoves.stays c o.2)
ok_up W X n d (FindV q k l u c) h o = (o.0, isv_up d.vmoves o.1, d.vmoves.stays c o.2)
ok_up W X n d (LookE b k l u v p c) h o =
    let a = o.1 in
    (pair_up d o.0, record { inside = (d.emoves u).stays p a.inside; inner = a.inner; below = rw ((d.emoves u).key_kept p a.inside) a.below })
ok_up W X n d (ConE k l u v c) h o = (pair_up d o.0, (d.emoves u).stays (at c) o.1)
ok_up W X n d (Trial k l u v e z) h o =
    let a = o.1 in
    let f = d.fixed e a.low a.high in (
      pair_up d o.0,
      record {
        low = a.low;
        high = f.stays;
        tried = d.trials e a.low a.high a.tried (h a.low);
        from_u = f.owner_same ∙ a.from_u;
        to_v = f.target_same ∙ a.to_v;
        key_l = f.key_same ∙ a.key_l;
      },
      hunt_up W X n d u v e z a.high o.2,
    )
