-- While no worker puts an edge in, what is live was live before: one choice of the machine, beside a busy worker.
use Prim.Native.Nat.{ℕ, ◌≤◌, ◌<◌}
use mathlib.Core.Bool.{Bool, true, false, cond}
use mathlib.Core.Logic.{◌⊎◌, inl, inr}
use mathlib.Core.Path.{◌≡◌, refl, ap, ◌∙◌}
use Rattle.row.proofs.Base.{upd_at}
use Rattle.row.specs.Machine.World.{World, Rest, Next}
use Rattle.row.specs.Machine.Moves.{move}
use Rattle.row.specs.Machine.Choices.{Conf, Choice, takes, steps, sweeps, takable, all_rest, act}
use Rattle.row.proofs.Graphs.Older.{LiveE}
use Rattle.row.proofs.Steps.Spots.{own}
use Rattle.row.proofs.Steps.Deeds.{Deed}
use Rattle.row.proofs.Steps.Outcomes.{did_deed}
use Rattle.row.proofs.Steps.Doing.{did}
use Rattle.row.proofs.Steps.Tried.{Edits, keeps, idle, turns, inserts, move_edits}
use Rattle.row.proofs.Events.Fine.{Fine, serves_any, rest_all}

-- a step of a worker with the own edge `mine` hands out no edge, or the one that it tries then
grows : (W : World) (mine : ℕ) (o : Next) → Edits W mine o → (o.world.e.used ≡ W.e.used) ⊎ ((mine ≡ 0) × (own o.spot ≡ W.e.used))
grows W mine o (keeps w q) = inl (ap (λ X. X.e.used) w)
grows W mine o (idle q u t) = inl u
grows W mine o (turns c t d m w) = inl (ap (λ X. X.e.used) w)
grows W mine o (inserts u v l p a q w) = inr (a, q)

-- from the world W to the world X no edge was put in
pub record Calm (W X : World) : Type 0 where
  pub used_same : X.e.used ≡ W.e.used
  pub was_live : (f : ℕ) → LiveE X f → LiveE W f
  pub owner_same : (f : ℕ) → 1 ≤ f → f < W.e.used → X.e.owner f ≡ W.e.owner f
  pub target_same : (f : ℕ) → 1 ≤ f → f < W.e.used → X.e.target f ≡ W.e.target f

pub calm_same : (W : World) → Calm W W
calm_same W = record { used_same = refl; was_live = λ f a. a; owner_same = λ f a b. refl; target_same = λ f a b. refl }

pub calm_on : {W X Y : World} → Calm W X → Calm X Y → Calm W Y
calm_on {W} {X} {Y} a b = record {
  used_same = b.used_same ∙ a.used_same;
  was_live = λ f z. a.was_live f (b.was_live f z);
  owner_same = λ f p q. b.owner_same f p (rw a.used_same q) ∙ a.owner_same f p q;
  target_same = λ f p q. b.target_same f p (rw a.used_same q) ∙ a.target_same f p q;
}

calm_deed : {W X : World} {n : ℕ} → Deed W X n → X.e.used ≡ W.e.used → Calm W X
calm_deed d q = record {
  used_same = q;
  was_live = λ f z. d.shrinks f (rw q at z.high) z;
  owner_same = λ f a b. (d.fixed f a b).owner_same;
  target_same = λ f a b. (d.fixed f a b).target_same;
}

-- some worker has put in the edge that it tries now
abbrev pub Inserted : Conf → Conf → Type 0
Inserted X Y = (v : ℕ) × (own (X.at v) ≡ 0) × (1 ≤ own (Y.at v))

calm_cond : (X : Conf) (b : Bool) (Y : Conf) → (b ≡ true → Calm X.world Y.world) → Calm X.world (cond b Y X).world
calm_cond X true Y f = f refl
calm_cond X false Y f = calm_same X.world

-- a choice beside a busy worker
pub act_calm : (X : Conf) → Fine X → (w : ℕ) → (X.at w ≡ Rest → ⊥) → (c : Choice) → Calm X.world (act X c).world ⊎ Inserted X (act X c)
act_calm X f w n (takes v q) = inl (calm_cond X (takable X.at v q) _ (λ e. calm_same X.world))
act_calm X f w n (sweeps W) = inl (calm_cond X (all_rest 8 X.at) _ (λ e. absurd (n (rest_all X f e w))))
act_calm X f w n (steps v) =
    let W : World = X.world in
    let z = serves_any (X.at v) in
    elim (grows W (own (X.at v)) (move W (X.at v)) (move_edits W (X.at v))) [
      | inl q ↦ inl (calm_deed (did_deed (did W f.good z.0 (X.at v) (f.ok v) z.1)) q)
      | inr p ↦ inr (v, p.0, rw (upd_at X.at v (move W (X.at v)).spot v refl, p.1) f.good.esound.some)
    ]
