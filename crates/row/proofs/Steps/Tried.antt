-- How a step changes the edges. So an edge on trial after it is the worker's own then,
-- or was on trial before and not given up by it.
use Prim.Native.Nat.{ℕ}
use mathlib.Core.Bool.{Bool, true, false, cond, ◌&&◌, ◌||◌}
use mathlib.Core.Path.{◌≡◌, refl, sym, ◌∙◌}
use mathlib.Core.Logic.{◌⊎◌, inl, inr}
use native.Mathlib.Omega.{arith}
use lib.IntN.{ℤ}
use lib.Dec.{eqb, leb}
use lib.Signed.{lt_z}
use Rattle.catalogue.specs.Tests.{eq_z}
use Rattle.laws.proofs.Picks.{clash}
use Rattle.row.proofs.Base.{upd_at, upd_other, same?}
use Rattle.row.specs.Lists.Edges.{Tag, marked, transit, added, Prev, einsert, retag}
use Rattle.row.specs.Machine.World.{World, Kind, Hunt, Spot, Rest, Vert, FindU, FindV, LookE, ConE, Trial, Next, with_e, is_added, OnTrial}
use Rattle.row.specs.Machine.Moves.{VSeen, lower, found, missing, vlook, find_u, find_v, con_e, ESeen, e_dead, e_again, e_passes, e_marks, e_onward, e_settle, elook, look_e, move}
use Rattle.row.proofs.Steps.Spots.{own}
use Rattle.row.proofs.Steps.TrialMeans.{TMeans, t_dead, t_done, t_source, t_drops, t_enters, t_closes, t_meets, t_passes, tmeans}

-- how a step changes the edges, by the worker's own edge before it
pub data Edits (W : World) (mine : ℕ) (o : Next) : Type 0 where
  -- nothing is written, and the own edge is the same
  keeps : o.world ≡ W → own o.spot ≡ mine → Edits W mine o
  -- no edge of its own before, and no tag is written
  idle : mine ≡ 0 → o.world.e.used ≡ W.e.used → o.world.e.tag ≡ W.e.tag → Edits W mine o
  -- an edge is marked or added; the own edge, if there was one
  turns : (c : ℕ) (t : Tag) → (t ≡ transit → ⊥) → (mine ≡ c) ⊎ (mine ≡ 0) → o.world ≡ with_e W (retag W.e c t) → Edits W mine o
  -- no edge of its own before, and the one that is put in then
  inserts : (u v : ℕ) (l : ℤ) (p : Prev) → mine ≡ 0 → own o.spot ≡ W.e.used → o.world ≡ with_e W (einsert W.e u v l p) → Edits W mine o

module _ (W : World) where
  u_edits : (q : Kind) (k l : ℤ) (c : ℕ) (z : VSeen) → Edits W 0 (find_u W q k l c z)
  u_edits q k l c lower = idle refl refl refl
  u_edits q k l c found = idle refl refl refl
  u_edits q k l c missing = idle refl refl refl

  v_edits : (q : Kind) (k l : ℤ) (u c : ℕ) (z : VSeen) → Edits W 0 (find_v W q k l u c z)
  v_edits q k l u c lower = idle refl refl refl
  v_edits q k l u c found = idle refl refl refl
  v_edits q k l u c missing = idle refl refl refl

  either : (mine : ℕ) (b : Bool) (o p : Next) → Edits W mine o → Edits W mine p → Edits W mine (cond b o p)
  either mine true o p f g = f
  either mine false o p f g = g

  con_edits : (k l : ℤ) (u v c : ℕ) → Edits W 0 (con_e W k l u v c)
  con_edits k l u v c =
      either 0 (lt_z (W.e.key c) l) _ _ (idle refl refl refl)
      (either 0 (W.v.marked u || W.v.marked v) _ _ (idle refl refl refl)
      (either 0 (eq_z (W.e.key c) l && (is_added (W.e.tag c) && eqb (W.e.target c) v)) _ _ (idle refl refl refl) (idle refl refl refl)))

  look_edits : (b : Bool) (k l : ℤ) (u v : ℕ) (p : Prev) (c : ℕ) (z : ESeen) → Edits W 0 (look_e W b k l u v p c z)
  look_edits b k l u v p c e_dead = idle refl refl refl
  look_edits b k l u v p c e_again = idle refl refl refl
  look_edits b k l u v p c e_passes = idle refl refl refl
  look_edits b k l u v p c e_marks = turns c marked (λ z. clash (cc)) (inr refl) refl
  look_edits b k l u v p c e_onward = idle refl refl refl
  look_edits true k l u v p c e_settle =
      either 0 (eq_z (W.e.key c) l) _ _ (either 0 (is_added (W.e.tag c)) _ _ (idle refl refl refl) (idle refl refl refl))
      (either 0 (leb 2048 W.e.used) _ _ (idle refl refl refl) (inserts u v l p refl refl refl))
  look_edits false k l u v p c e_settle =
      either 0 (eq_z (W.e.key c) l && is_added (W.e.tag c)) _ _ (turns c marked (λ z. clash (cc)) (inr refl) refl) (idle refl refl refl)

  trial_edits : (k l : ℤ) (u v x : ℕ) (h : Hunt) (o : Next) → TMeans W k l u v x h o → Edits W x o
  trial_edits k l u v x h o (t_dead d) = turns x marked (λ z. clash (cc)) (inl refl) refl
  trial_edits k l u v x h o (t_done m s r) = turns x added (λ z. clash (cc)) (inl refl) refl
  trial_edits k l u v x h o (t_source s) = turns x marked (λ z. clash (cc)) (inl refl) refl
  trial_edits k l u v x h o (t_drops m s y ys r n f) = keeps refl refl
  trial_edits k l u v x h o (t_enters m s y ys r n f) = keeps refl refl
  trial_edits k l u v x h o (t_closes m y c s z) = keeps refl refl
  trial_edits k l u v x h o (t_meets m y c s n f) = keeps refl refl
  trial_edits k l u v x h o (t_passes m y c s n f) = keeps refl refl

  pub move_edits : (pl : Spot) → Edits W (own pl) (move W pl)
  move_edits Rest = idle refl refl refl
  move_edits (Vert pl) = idle refl refl refl
  move_edits (FindU q k l c) = u_edits q k l c (vlook W.v k c)
  move_edits (FindV q k l u c) = v_edits q k l u c (vlook W.v l c)
  move_edits (LookE b k l u v p c) = look_edits b k l u v p c (elook W l u v p c)
  move_edits (ConE k l u v c) = con_edits k l u v c
  move_edits (Trial k l u v e h) = trial_edits k l u v e h (move W (Trial k l u v e h)) (tmeans W k l u v e h)

-- what is on trial after a step of a worker whose own edge was `mine`
pub record Tried (W : World) (mine : ℕ) (o : Next) : Type 0 where
  pub was : (e : ℕ) → OnTrial o.world e → (own o.spot ≡ e) ⊎ (OnTrial W e × (e ≡ mine → ⊥))

tried : (W : World) (mine : ℕ) (o : Next) → Edits W mine o → Tried W mine o
tried W mine o (keeps w q) = record { was = λ e i. elim (same? e mine) [ inl z ↦ inl (q ∙ sym z) | inr n ↦ inr (rw w at i, n) ] }
tried W mine o (idle q u t) =
    record { was = λ e i. (let l = i.low in let h = i.high in inr (record { low = l; high = omega arith; tried = rw t at i.tried }, omega arith)) }
tried W mine o (turns c t d m w) = record {
  was = λ e i.
      let j : OnTrial (with_e W (retag W.e c t)) e = rw w at i in
      elim (same? e c) [
        | inl z ↦ absurd (d (sym (upd_at W.e.tag c t e z) ∙ j.tried))
        | inr n ↦ let l = j.low in
            inr (record { low = l; high = j.high; tried = sym (upd_other _ _ _ _ n) ∙ j.tried }, λ z. elim m [ inl q ↦ n (z ∙ q) | inr q ↦ omega arith ])
      ];
}
tried W mine o (inserts u v l p a q w) = record {
  was = λ e i.
      let j : OnTrial (with_e W (einsert W.e u v l p)) e = rw w at i in
      elim (same? e W.e.used) [
        | inl z ↦ inl (q ∙ sym z)
        | inr n ↦ let lo = j.low in let h = j.high in inr (record { low = lo; high = omega arith; tried = sym (upd_other _ _ _ _ n) ∙ j.tried }, omega arith)
      ];
}

pub move_tried : (W : World) (pl : Spot) → Tried W (own pl) (move W pl)
move_tried W pl = tried W (own pl) (move W pl) (move_edits W pl)
