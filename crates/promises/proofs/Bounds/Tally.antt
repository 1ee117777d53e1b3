-- A trial that runs alone in an unchanged world: each vertex taken costs two steps
-- and one for each edge node in its list.
use Prim.Native.Nat.{ℕ, suc, ◌+◌, ◌≤◌}
use mathlib.Core.Bool.{true, false}
use mathlib.Core.Logic.{inl, inr}
use mathlib.Core.Option.{none, some}
use mathlib.Core.Path.{◌≡◌, refl, sym, ap, ◌∙◌}
use native.Mathlib.Omega.{arith}
use lib.IntN.{ℤ}
use Rattle.laws.proofs.Picks.{clash}
use Rattle.row.proofs.Base.{upd_at, upd_other, same?}
use Rattle.row.specs.Machine.World.{World, closed, opened, Hunt, stands_at, meets, took, Trial, Next, goes}
use Rattle.row.specs.Machine.Moves.{move}
use Rattle.row.proofs.Steps.Spots.{StandOk}
use Rattle.row.proofs.Steps.TrialMeans.{TMeans, t_dead, t_done, t_source, t_drops, t_enters, t_closes, t_meets, t_passes, tmeans}
use Rattle.row.proofs.Steps.Hunting.{to_unmet}
use Rattle.row.proofs.Graphs.Good.{WGood}
use Rattle.promises.proofs.Showing.Shows.{Searched}
use Rattle.promises.proofs.Hunts.Searching.{front_met, front_new}
use Rattle.promises.proofs.Showing.Weighing.{weigh, weigh_one_more}
use Rattle.promises.proofs.Bounds.Far.{Entered}
use Rattle.promises.proofs.Bounds.Costs.{ahead, cost, left, at_tail, one_less}

-- after i steps of a trial of an edge to v: no vertex met is marked, unless v is;
-- and the steps made are the cost of the vertices taken, less what is left
pub record Tally (W : World) (v i : ℕ) (h : Hunt) : Type 0 where
  pub plain : W.v.marked v ≡ false → (y : ℕ) → h.met y ≡ true → W.v.marked y ≡ false
  pub enters : Entered h.taken h.stand
  pub spent : i + left W h.stand ≡ weigh (cost W) h.taken 256

-- a step that keeps the world, and goes on with the tally
pub record Counts (W : World) (k l : ℤ) (u v e i : ℕ) (n : Next) : Type 0 where
  pub hunt : Hunt
  pub is : n ≡ goes W (Trial k l u v e hunt)
  pub tally : Tally W v (suc i) hunt

module _ (W : World) (g : WGood W) (few : W.v.used ≤ 256) (few_edges : W.e.used ≤ 2048) (k l : ℤ) (u v e i : ℕ) (h : Hunt)
    (s : Searched W.v.used h.met h.todo h.taken) (p : StandOk W h.stand) (t : Tally W v i h) where
  -- an edge on
  on : (x c : ℕ) → h.stand ≡ opened x c → (c ≡ 0 → ⊥) → suc i + (1 + ahead W (W.e.next c)) ≡ weigh (cost W) h.taken 256
  on x c q n = let before : i + (1 + ahead W c) ≡ weigh (cost W) h.taken 256 = rw q at t.spent in omega (arith, before, one_less W g few_edges x c (rw q at p) n)

  counted : (n : Next) → TMeans W k l u v e h n → n.answer ≡ none → Counts W k l u v e i n
  counted n (t_dead d) z = clash (cc)
  counted n (t_done m q r) z = clash (cc)
  counted n (t_source q) z = clash (cc)
  counted n (t_drops m q x xs r d f) z = clash (cc (t.plain m.goal x (front_met s x xs r)))
  counted n (t_enters m q x xs r d f) z = record {
    hunt = took h x xs (opened x (W.e.first x));
    is = refl;
    tally = record {
      plain = t.plain;
      enters = upd_at h.taken x true x refl;
      spent =
          let one = weigh_one_more (cost W) h.taken x (front_new s x xs r) 256 (omega (arith, (s.met_series x (front_met s x xs r)).high)) in
          let before : i + 0 ≡ weigh (cost W) h.taken 256 = rw q at t.spent in
          omega (arith, one, before);
    };
  }
  counted n (t_closes m x c q (inl f)) z = clash (cc (t.plain m.goal x (s.taken_met x (rw q at t.enters))))
  counted n (t_closes m x c q (inr f)) z = record {
    hunt = stands_at h closed;
    is = refl;
    tally = record {
      plain = t.plain;
      enters = tt;
      spent = let before : i + (1 + ahead W c) ≡ weigh (cost W) h.taken 256 = rw q at t.spent in omega (arith, before, ap (ahead W) f, at_tail W);
    };
  }
  counted n (t_meets m x c q d f) z = record {
    hunt = meets h (W.e.target c) (opened x (W.e.next c));
    is = refl;
    tally = record {
      plain = λ w y b. elim (same? y (W.e.target c)) [
        | inl r ↦ rw r (to_unmet W e h c f).0
        | inr n ↦ t.plain w y (sym (upd_other h.met (W.e.target c) true y n) ∙ b)
      ];
      enters = rw q at t.enters;
      spent = on x c q d;
    };
  }
  counted n (t_passes m x c q d f) z = record {
    hunt = stands_at h (opened x (W.e.next c));
    is = refl;
    tally = record { plain = t.plain; enters = rw q at t.enters; spent = on x c q d };
  }

-- a step of the trial that is not replied to
pub counts : (W : World) → WGood W → W.v.used ≤ 256 → W.e.used ≤ 2048 → (k l : ℤ) (u v e i : ℕ) (h : Hunt) → Searched W.v.used h.met h.todo h.taken
    → StandOk W h.stand → Tally W v i h → (move W (Trial k l u v e h)).answer ≡ none → Counts W k l u v e i (move W (Trial k l u v e h))
counts W g few few_edges k l u v e i h s p t = counted W g few few_edges k l u v e i h s p t (move W (Trial k l u v e h)) (tmeans W k l u v e h)

-- a trial that is replied 1 has nothing open
pub ends_closed : (W : World) (k l : ℤ) (u v e : ℕ) (h : Hunt) → (move W (Trial k l u v e h)).answer ≡ some 1 → h.stand ≡ closed
ends_closed W k l u v e h = by (move W (Trial k l u v e h)) (tmeans W k l u v e h)
  where
    by : (n : Next) → TMeans W k l u v e h n → n.answer ≡ some 1 → h.stand ≡ closed
    by n (t_dead d) z = clash (cc)
    by n (t_done m q r) z = q
    by n (t_source q) z = q
    by n (t_drops m q x xs r d f) z = q
    by n (t_enters m q x xs r d f) z = q
    by n (t_closes m x c q d) z = clash (cc)
    by n (t_meets m x c q d f) z = clash (cc)
    by n (t_passes m x c q d f) z = clash (cc)
