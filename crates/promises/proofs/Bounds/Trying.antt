-- A step of a trial that is not replied to takes it further: it takes a vertex that it had not taken,
-- passes an edge, or closes the open vertex.
use Prim.Native.Nat.{ℕ, suc, ◌≤◌, ◌<◌}
use mathlib.Core.Bool.{Bool, true, false}
use mathlib.Core.List.{List, ◌∷◌}
use mathlib.Core.Path.{◌≡◌, refl, ap, ◌∙◌}
use native.Mathlib.Omega.{arith}
use borrow.Author.Tests.{eqb-true, ne_eqb, le-leb}
use lib.Dec.{eqb, leb}
use lib.IntN.{ℤ}
use Rattle.catalogue.specs.Tests.{pick, upd}
use Rattle.catalogue.specs.Workers.{count}
use Rattle.laws.proofs.Picks.{clash}
use Rattle.row.proofs.Base.{upd_at, upd_true}
use Rattle.row.specs.Lists.Edges.{at, Mine}
use Rattle.row.specs.Machine.World.{World, Hunt, Trial, Next}
use Rattle.row.specs.Machine.Moves.{move}
use Rattle.row.proofs.Steps.Spots.{StandOk}
use Rattle.row.proofs.Steps.TrialMeans.{TMeans, t_dead, t_done, t_source, t_drops, t_enters, t_closes, t_meets, t_passes, tmeans}
use Rattle.row.proofs.Graphs.Good.{WGood}
use Rattle.promises.proofs.Showing.Shows.{Searched}
use Rattle.promises.proofs.Hunts.Searching.{front_met, front_new}
use Rattle.row.proofs.Lists.LinkLaws.{no_tail}
use Rattle.promises.proofs.Bounds.Counting.{count_le, count_more}
use Rattle.promises.proofs.Bounds.Far.{among, edges_that, over, behind, Entered}
use Rattle.promises.proofs.Bounds.Passing.{both_hold, edge_passed}
use Rattle.promises.proofs.Bounds.Looking.{OnlyFurther}

one_more : (taken : ℕ → Bool) (x : ℕ) → taken x ≡ false → x < 256 → suc (count taken 256) ≤ count (upd taken x true) 256
one_more taken x n l = count_more taken (upd taken x true) 256 x l n (upd_at taken x true x refl) (λ o h. upd_true taken x o)

module _ (W : World) where
  -- a test that passes wherever another does, whatever the key, passes as many edges
  wider : (t s : ℕ → ℤ → Bool) → ((o : ℕ) (j : ℤ) → t o j ≡ true → s o j ≡ true) → edges_that W t ≤ edges_that W s
  wider t s h =
      count_le (among W.e.owner W.e.key t) (among W.e.owner W.e.key s) W.e.used W.e.used (omega arith)
      (λ e l. both_hold (leb 1 e) _ _ (h (W.e.owner e) (W.e.key e)))

  module _ (taken : ℕ → Bool) (x : ℕ) where
    -- x is taken and closed at once
    over_more : edges_that W (over taken) ≤ edges_that W (over (upd taken x true))
    over_more = wider (over taken) (over (upd taken x true)) (λ o j. upd_true taken x o)

    -- x is taken and opened
    over_open : taken x ≡ false → (k : ℤ) → edges_that W (over taken) ≤ edges_that W (behind (upd taken x true) x k)
    over_open n k = wider (over taken) (behind (upd taken x true) x k)
        (λ o j e. rw (ne_eqb o x (λ q. clash (cc (ap taken q)))) (upd_true taken x o e))

    -- x is closed
    open_over : taken x ≡ true → (k : ℤ) → edges_that W (behind taken x k) ≤ edges_that W (over taken)
    open_over t k = wider (behind taken x k) (over taken) (λ o j. by o (eqb o x) refl _)
      where
        by : (o : ℕ) (a : Bool) → eqb o x ≡ a → (b : Bool) → pick a b (taken o) ≡ true → taken o ≡ true
        by o true e b z = ap taken (eqb-true o x e) ∙ t
        by o false e b z = z

module _ (W : World) (g : WGood W) (few : W.v.used ≤ 256) (k l : ℤ) (u v e : ℕ) (h : Hunt) (s : Searched W.v.used h.met h.todo h.taken) where
  abbrev Goes : Next → Type 0
  Goes = OnlyFurther W (Trial k l u v e h)

  -- one vertex more is taken
  more : (x : ℕ) (xs : List ℕ) → h.todo ≡ x ∷ xs → suc (count h.taken 256) ≤ count (upd h.taken x true) 256
  more x xs r = one_more h.taken x (front_new s x xs r) (omega (arith, (s.met_series x (front_met s x xs r)).high))

  -- one edge more is passed
  on : (x c : ℕ) → Mine W.e x (at c) → (c ≡ 0 → ⊥)
      → suc (edges_that W (behind h.taken x (W.e.key c))) ≤ edges_that W (behind h.taken x (W.e.key (W.e.next c)))
  on x c m n = edge_passed W h.taken x c (W.e.next c) (no_tail W.e x c m n) ((g.esound.sorted x).follows (at c) m (λ z. n (cc))).above

  further : StandOk W h.stand → Entered h.taken h.stand → (n : Next) → TMeans W k l u v e h n → Goes n
  further p t n (t_dead d) = λ z. clash (cc)
  further p t n (t_done m q r) = λ z. clash (cc)
  further p t n (t_source q) = λ z. clash (cc)
  further p t n (t_drops m q x xs r d f) = λ z. rw q (record { same = refl; enters = tt; rises = omega (arith, more x xs r, over_more W h.taken x) })
  further p t n (t_enters m q x xs r d f) = λ z. rw q (record {
    same = refl;
    enters = upd_at h.taken x true x refl;
    rises = omega (arith, more x xs r, over_open W h.taken x (front_new s x xs r) (W.e.key (W.e.first x)));
  })
  further p t n (t_closes m x c q d) = λ z. rw q (record { same = refl; enters = tt; rises = omega (arith, open_over W h.taken x (rw q at t) (W.e.key c)) })
  further p t n (t_meets m x c q d f) = λ z. rw q (record { same = refl; enters = rw q at t; rises = omega (arith, on x c (rw q at p) d) })
  further p t n (t_passes m x c q d f) = λ z. rw q (record { same = refl; enters = rw q at t; rises = omega (arith, on x c (rw q at p) d) })

  pub trial_further : StandOk W h.stand → Entered h.taken h.stand → Goes (move W (Trial k l u v e h))
  trial_further p t = further p t (move W (Trial k l u v e h)) (tmeans W k l u v e h)

-- ---- the pool

all_series : count (leb 2) 256 ≡ 254
unfolding count
all_series = refl

pub taken_most : (used : ℕ) (met : ℕ → Bool) (todo : List ℕ) (taken : ℕ → Bool) → Searched used met todo taken → count taken 256 ≤ 254
taken_most used met todo taken s =
    omega (arith, all_series, count_le taken (leb 2) 256 256 (omega arith) (λ x h t. le-leb 2 x (s.met_series x (s.taken_met x t)).low))
