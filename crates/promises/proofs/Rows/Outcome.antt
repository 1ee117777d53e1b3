-- A call alone has at most one outcome. It has one wherever it is known whether a walk leads
-- from one series to another; and in a live graph it is.
use Prim.Native.Nat.{ℕ}
use mathlib.Core.Bool.{Bool, true, false}
use mathlib.Core.Logic.{inl, inr}
use mathlib.Core.Path.{◌≡◌, refl, sym, ap, ◌∙◌}
use lib.IntN.{ℤ}
use Rattle.catalogue.specs.Tests.{pick}
use Rattle.catalogue.specs.Live.{live_pairs}
use Rattle.laws.proofs.Picks.{pick_both, clash}
use Rattle.promises.specs.Graphs.{Graph, live, Walk}
use Rattle.promises.specs.Alone.{Ask, AddV, RemV, ConV, AddE, RemE, ConE, with_series, without_series, with_pair, both, Alone, add_v_new, add_v_there, rem_v_there, rem_v_none, con_v_there, con_v_none, add_e_no_end, add_e_there, add_e_loop, add_e_new, rem_e_no_end, rem_e_there, rem_e_none, con_e_there, con_e_none}
use Rattle.promises.specs.Promises.{OneAtMost, Outcome, OneOutcome}
use Rattle.promises.proofs.Rows.Walks.{Known, walk_known}

module _ (g : Graph) where
  -- whether a walk leads from l back to k
  abbrev Back : ℤ → ℤ → Bool → Type 0
  Back k l true = Walk g k l
  Back k l false = Walk g k l → ⊥

  -- AddE has to know it of a pair that is none yet, between two series
  abbrev Knows : Bool → Ask → Type 0
  Knows b (AddV k) = Unit {0}
  Knows b (RemV k) = Unit {0}
  Knows b (ConV k) = Unit {0}
  Knows b (AddE k l) = both g k l ≡ true → g.derived k l ≡ false → Back k l b
  Knows b (RemE k l) = Unit {0}
  Knows b (ConE k l) = Unit {0}

  -- what a call replies, and the graph after it
  abbrev tried : ℤ → ℤ → Bool → ℕ × Graph
  tried k l b = pick b (6, g) (1, with_pair g k l true)

  abbrev told : Bool → Ask → ℕ × Graph
  told b (AddV k) = pick (g.series k) (2, g) (1, with_series g k)
  told b (RemV k) = pick (g.series k) (1, without_series g k) (2, g)
  told b (ConV k) = pick (g.series k) (1, g) (2, g)
  told b (AddE k l) = pick (both g k l) (pick (g.derived k l) (4, g) (tried k l b)) (3, g)
  told b (RemE k l) = pick (both g k l) (pick (g.derived k l) (1, with_pair g k l false) (5, g)) (3, g)
  told b (ConE k l) = pick (g.derived k l) (1, g) (8, g)

  abbrev Gives : Ask → ℕ × Graph → Type 0
  Gives q o = Alone g q o.0 o.1

  gives_tried : (k l : ℤ) → both g k l ≡ true → g.derived k l ≡ false → (b : Bool) → Back k l b → Gives (AddE k l) (tried k l b)
  gives_tried k l e f true w = add_e_loop e f w
  gives_tried k l e f false n = add_e_new e f n

  gives : (b : Bool) (q : Ask) → Knows b q → Gives q (told b q)
  gives b (AddV k) d = pick_both (Gives (AddV k)) (g.series k) _ _ (λ e. add_v_there e) (λ e. add_v_new e)
  gives b (RemV k) d = pick_both (Gives (RemV k)) (g.series k) _ _ (λ e. rem_v_there e) (λ e. rem_v_none e)
  gives b (ConV k) d = pick_both (Gives (ConV k)) (g.series k) _ _ (λ e. con_v_there e) (λ e. con_v_none e)
  gives b (AddE k l) d =
      pick_both (Gives (AddE k l)) (both g k l) _ _
      (λ e. pick_both (Gives (AddE k l)) (g.derived k l) _ _ (λ f. add_e_there e f) (λ f. gives_tried k l e f b (d e f))) (λ e. add_e_no_end e)
  gives b (RemE k l) d =
      pick_both (Gives (RemE k l)) (both g k l) _ _
      (λ e. pick_both (Gives (RemE k l)) (g.derived k l) _ _ (λ f. rem_e_there e f) (λ f. rem_e_none e f)) (λ e. rem_e_no_end e)
  gives b (ConE k l) d = pick_both (Gives (ConE k l)) (g.derived k l) _ _ (λ e. con_e_there e) (λ e. con_e_none e)

  -- and nothing else
  closes : (k l : ℤ) → Walk g k l → (b : Bool) → Back k l b → tried k l b ≡ (6, g)
  closes k l w true v = refl
  closes k l w false n = absurd (n w)

  closes_none : (k l : ℤ) → (Walk g k l → ⊥) → (b : Bool) → Back k l b → tried k l b ≡ (1, with_pair g k l true)
  closes_none k l n true w = absurd (n w)
  closes_none k l n false m = refl

  only : (b : Bool) (q : Ask) → Knows b q → (n : ℕ) (h : Graph) → Alone g q n h → told b q ≡ (n, h)
  only b q d n h (add_v_new e) = rw e
  only b q d n h (add_v_there e) = rw e
  only b q d n h (rem_v_there e) = rw e
  only b q d n h (rem_v_none e) = rw e
  only b q d n h (con_v_there e) = rw e
  only b q d n h (con_v_none e) = rw e
  only b q d n h (add_e_no_end e) = rw e
  only b q d n h (add_e_there e f) = rw (e, f)
  only b q d n h (add_e_loop {k} {l} e f w) = rw (e, f) (closes k l w b (d e f))
  only b q d n h (add_e_new {k} {l} e f x) = rw (e, f) (closes_none k l x b (d e f))
  only b q d n h (rem_e_no_end e) = rw e
  only b q d n h (rem_e_there e f) = rw (e, f)
  only b q d n h (rem_e_none e f) = rw (e, f)
  only b q d n h (con_e_there e) = rw e
  only b q d n h (con_e_none e) = rw e

  -- with an outcome it is known
  knows : (q : Ask) (n : ℕ) (h : Graph) → Alone g q n h → (b : Bool) × Knows b q
  knows q n h (add_v_new e) = (true, tt)
  knows q n h (add_v_there e) = (true, tt)
  knows q n h (rem_v_there e) = (true, tt)
  knows q n h (rem_v_none e) = (true, tt)
  knows q n h (con_v_there e) = (true, tt)
  knows q n h (con_v_none e) = (true, tt)
  knows q n h (add_e_no_end e) = (true, λ a c. clash (cc))
  knows q n h (add_e_there e f) = (true, λ a c. clash (cc))
  knows q n h (add_e_loop e f w) = (true, λ a c. w)
  knows q n h (add_e_new e f x) = (false, λ a c. x)
  knows q n h (rem_e_no_end e) = (true, tt)
  knows q n h (rem_e_there e f) = (true, tt)
  knows q n h (rem_e_none e f) = (true, tt)
  knows q n h (con_e_there e) = (true, tt)
  knows q n h (con_e_none e) = (true, tt)

  -- so it is where walks between any two series are decided
  decides : ((to from : ℤ) → Known (Walk g to from)) → (q : Ask) → (b : Bool) × Knows b q
  decides known (AddV k) = (true, tt)
  decides known (RemV k) = (true, tt)
  decides known (ConV k) = (true, tt)
  decides known (AddE k l) = elim (known k l) [ inl w ↦ (true, λ e f. w) | inr n ↦ (false, λ e f. n) ]
  decides known (RemE k l) = (true, tt)
  decides known (ConE k l) = (true, tt)

  outcome : (q : Ask) → (b : Bool) × Knows b q → Outcome g q
  outcome q d = record {
    reply = (told d.0 q).0;
    graph = (told d.0 q).1;
    alone = gives d.0 q d.1;
    only = λ n h a. let z = only d.0 q d.1 n h a in (sym (ap (λ o. o.0) z), sym (ap (λ o. o.1) z));
  }

pub one_at_most : OneAtMost
one_at_most g q m n h i a c =
    let o = outcome g q (knows g q m h a) in
    let x = o.only m h a in
    let y = o.only n i c in
    (x.0 ∙ sym y.0, x.1 ∙ sym y.1)

pub one_outcome : OneOutcome
one_outcome C q = outcome (live C) q (decides (live C) (walk_known (live C).series (live_pairs C)) q)
