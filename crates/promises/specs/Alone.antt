-- The sequential catalogue: what each call replies when it is alone, and the graph after it.
use Rattle.std.specs.Prelude.{ℕ, Bool, true, false, ◌≡◌, ℤ, eqb}
use Rattle.catalogue.specs.Tests.{pick, eq_z}
use Rattle.catalogue.specs.declared.workers.Request.{Request}
use Rattle.promises.specs.Graphs.{Graph, Walk}

-- The six calls with the keys that they read.
pub data Ask : Type 0 where
  AddV RemV ConV : ℤ → Ask
  AddE RemE ConE : ℤ → ℤ → Ask

-- what a request asks for, by its code
abbrev pub ask_of : Request → Ask
ask_of q =
    pick (eqb q.code 1) (AddV q.pair.k)
    (pick (eqb q.code 2) (RemV q.pair.k)
    (pick (eqb q.code 3) (ConV q.pair.k)
    (pick (eqb q.code 4) (AddE q.pair.k q.pair.l)
    (pick (eqb q.code 5) (RemE q.pair.k q.pair.l) (ConE q.pair.k q.pair.l)))))

-- the graph with one series more, or without one and all that hung on it
abbrev pub with_series : Graph → ℤ → Graph
with_series g k = record { series = λ j. pick (eq_z j k) true (g.series j); derived = g.derived }

abbrev pub without_series : Graph → ℤ → Graph
without_series g k = record {
  series = λ j. pick (eq_z j k) false (g.series j);
  derived = λ i j. pick (eq_z i k) false (pick (eq_z j k) false (g.derived i j));
}

-- the graph in which one pair is a derivation, or is none
abbrev pub with_pair : Graph → ℤ → ℤ → Bool → Graph
with_pair g k l b = record { series = g.series; derived = λ i j. pick (eq_z i k) (pick (eq_z j l) b (g.derived i j)) (g.derived i j) }

abbrev pub both : Graph → ℤ → ℤ → Bool
both g k l = pick (g.series k) (g.series l) false

-- Each call's replies, with the graph after it.
-- AddE replies 6 where the pair would close a loop: where a walk leads from l back to k.
pub data Alone (g : Graph) : Ask → ℕ → Graph → Type 0 where
  add_v_new : {k : ℤ} → g.series k ≡ false → Alone g (AddV k) 1 (with_series g k)
  add_v_there : {k : ℤ} → g.series k ≡ true → Alone g (AddV k) 2 g
  rem_v_there : {k : ℤ} → g.series k ≡ true → Alone g (RemV k) 1 (without_series g k)
  rem_v_none : {k : ℤ} → g.series k ≡ false → Alone g (RemV k) 2 g
  con_v_there : {k : ℤ} → g.series k ≡ true → Alone g (ConV k) 1 g
  con_v_none : {k : ℤ} → g.series k ≡ false → Alone g (ConV k) 2 g
  add_e_no_end : {k l : ℤ} → both g k l ≡ false → Alone g (AddE k l) 3 g
  add_e_there : {k l : ℤ} → both g k l ≡ true → g.derived k l ≡ true → Alone g (AddE k l) 4 g
  add_e_loop : {k l : ℤ} → both g k l ≡ true → g.derived k l ≡ false → Walk g k l → Alone g (AddE k l) 6 g
  add_e_new : {k l : ℤ} → both g k l ≡ true → g.derived k l ≡ false → (Walk g k l → ⊥) → Alone g (AddE k l) 1 (with_pair g k l true)
  rem_e_no_end : {k l : ℤ} → both g k l ≡ false → Alone g (RemE k l) 3 g
  rem_e_there : {k l : ℤ} → both g k l ≡ true → g.derived k l ≡ true → Alone g (RemE k l) 1 (with_pair g k l false)
  rem_e_none : {k l : ℤ} → both g k l ≡ true → g.derived k l ≡ false → Alone g (RemE k l) 5 g
  con_e_there : {k l : ℤ} → g.derived k l ≡ true → Alone g (ConE k l) 1 g
  con_e_none : {k l : ℤ} → g.derived k l ≡ false → Alone g (ConE k l) 8 g
