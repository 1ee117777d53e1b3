-- What the machine's calls do alone is what the sequential catalogue allows.
use Prim.Native.Nat.{ℕ}
use mathlib.Core.Bool.{Bool, true, false, cond, ◌&&◌}
use mathlib.Core.Path.{◌≡◌, refl, sym, ap, ap₂, ◌∙◌, subst, fun_ext}
use lib.IntN.{ℤ}
use Rattle.catalogue.specs.Tests.{pick, eq_z}
use Rattle.laws.proofs.Rules.{eq_z_refl}
use Rattle.row.proofs.Tests.{cond_or}
use Rattle.row.specs.Machine.Vertices.{addV, remV, conV, put}
use Rattle.row.specs.Machine.World.{vert, addE, remE, conE, put_edge, between, alone}
use Rattle.row.specs.Machine.World
use Rattle.row.proofs.Graphs.Loops.{end, via, Loopless}
use Rattle.row.proofs.Graphs.Loops
use Rattle.promises.specs.Graphs.{Graph, Walk, here, over}
use Rattle.promises.specs.Alone.{Ask, with_series, without_series, with_pair, both, Alone, add_v_new, add_v_there, rem_v_there, rem_v_none, con_v_there, con_v_none, add_e_no_end, add_e_there, add_e_new, rem_e_no_end, rem_e_there, rem_e_none, con_e_there, con_e_none}
use Rattle.promises.proofs.Showing.Tests.{pick_cond, pick_and}
use Rattle.promises.proofs.Runs.Telling.{asked_of, graph_of}

-- ---- tests

and_is : (a b : Bool) → pick a b false ≡ (a && b)
and_is true b = refl
and_is false b = refl

-- what lies between two series still does with one series more; without one, what hung on it is gone
module _ (b c : Bool) where
  kept : (a x y : Bool) → (a ≡ true → (b ≡ true) × (c ≡ true)) → a ≡ (a && (cond x true b && cond y true c))
  kept false x y h = refl
  kept true x y h = rw ((h refl).0, (h refl).1) (by x y)
    where
      by : (x y : Bool) → true ≡ (cond x true true && cond y true true)
      by true true = refl
      by true false = refl
      by false true = refl
      by false false = refl

  gone : (a x y : Bool) → (a ≡ true → (b ≡ true) × (c ≡ true)) → pick x false (pick y false a) ≡ (a && (cond x false b && cond y false c))
  gone false true y h = refl
  gone false false true h = refl
  gone false false false h = refl
  gone true x y h = rw ((h refl).0, (h refl).1) (by x y)
    where
      by : (x y : Bool) → pick x false (pick y false true) ≡ (cond x false true && cond y false true)
      by true true = refl
      by true false = refl
      by false true = refl
      by false false = refl

-- ---- the graphs after each call

-- derivations lie between series
abbrev pub Ended : World.Graph → Type 0
Ended g = (i j : ℤ) → g.e i j ≡ true → (g.v i ≡ true) × (g.v j ≡ true)

pub graph_path : {a b : ℤ → Bool} {c d : ℤ → ℤ → Bool} → ((i : ℤ) → a i ≡ b i) → ((i j : ℤ) → c i j ≡ d i j)
    → ◌≡◌ {A = Graph} (record { series = a; derived = c }) (record { series = b; derived = d })
graph_path p q = ap₂ (λ v e. record { series = v; derived = e }) (fun_ext p) (fun_ext (λ i. fun_ext (q i)))

module _ (g : World.Graph) (ends : Ended g) where
  same_left : graph_of g ≡ graph_of (record { v = g.v; e = between g.v g.e })
  same_left = graph_path (λ i. refl) (λ i j. kept (g.v i) (g.v j) (g.e i j) false false (ends i j))

  more_left : (k : ℤ) → with_series (graph_of g) k ≡ graph_of (record { v = put g.v k true; e = between (put g.v k true) g.e })
  more_left k =
      graph_path (λ i. pick_cond (eq_z i k) true (g.v i)) (λ i j. kept (g.v i) (g.v j) (g.e i j) (eq_z i k) (eq_z j k) (ends i j))

  less_left : (k : ℤ) → without_series (graph_of g) k ≡ graph_of (record { v = put g.v k false; e = between (put g.v k false) g.e })
  less_left k =
      graph_path (λ i. pick_cond (eq_z i k) false (g.v i)) (λ i j. gone (g.v i) (g.v j) (g.e i j) (eq_z i k) (eq_z j k) (ends i j))

  pair_left : (k l : ℤ) (b : Bool) → with_pair (graph_of g) k l b ≡ graph_of (record { v = g.v; e = put_edge g.e k l b })
  pair_left k l b = graph_path (λ i. refl) (λ i j. pick_and (eq_z i k) (eq_z j l) b (g.e i j))

-- ---- a pair that is put closes no loop, for there is none after it

walk_put : (g : World.Graph) (k l : ℤ) {to from : ℤ} → Walk (graph_of g) to from → Loops.Walk (put_edge g.e k l true) to from
walk_put g k l here = end refl
walk_put g k l (over {from} next e w) = via next (cond_or (eq_z from k && eq_z next l) (g.e from next) e) (walk_put g k l w)

closes_none : (g : World.Graph) (k l : ℤ) → Loopless (record { v = g.v; e = put_edge g.e k l true }) → Walk (graph_of g) k l → ⊥
closes_none g k l n w = n k l (rw (eq_z_refl k, eq_z_refl l) refl) (walk_put g k l w)

-- ---- each call

-- an outcome by another name
named : {g : Graph} {q : Ask} {n r : ℕ} {H : Graph} {k h : World.Graph} → Alone g q n H → H ≡ graph_of k → ◌≡◌ {A = ℕ × World.Graph} (n, k) (r, h)
    → Alone g q r (graph_of h)
named {g} {q} {h = h} a e p = rw (ap (λ x. x.0) p, e ∙ ap (λ x. graph_of x.1) p) at a

module _ (g h : World.Graph) (ends : Ended g) (n : Loopless h) (r : ℕ) where
  abbrev Does : Ask → Type 0
  Does q = Alone (graph_of g) q r (graph_of h)

  -- `alone` after its tests, on whatever they came out
  abbrev Left : ℕ × (ℤ → Bool) → Type 0
  Left o = ◌≡◌ {A = ℕ × World.Graph} (o.0, record { v = o.1; e = between o.1 g.e }) (r, h)

  adds_v : (k : ℤ) (b : Bool) → g.v k ≡ b → Left (cond b (2, g.v) (1, put g.v k true)) → Does (Ask.AddV k)
  adds_v k true e p = named (add_v_there e) (same_left g ends) p
  adds_v k false e p = named (add_v_new e) (more_left g ends k) p

  rems_v : (k : ℤ) (b : Bool) → g.v k ≡ b → Left (cond b (1, put g.v k false) (2, g.v)) → Does (Ask.RemV k)
  rems_v k true e p = named (rem_v_there e) (less_left g ends k) p
  rems_v k false e p = named (rem_v_none e) (same_left g ends) p

  cons_v : (k : ℤ) (b : Bool) → g.v k ≡ b → Left (cond b 1 2, g.v) → Does (Ask.ConV k)
  cons_v k true e p = named (con_v_there e) (same_left g ends) p
  cons_v k false e p = named (con_v_none e) (same_left g ends) p

  module _ (k l : ℤ) where
    ends_are : {b : Bool} → (g.v k && g.v l) ≡ b → both (graph_of g) k l ≡ b
    ends_are e = and_is (g.v k) (g.v l) ∙ e

    abbrev with_edge : Bool → World.Graph
    with_edge b = record { v = g.v; e = put_edge g.e k l b }

    adds_e : (a b : Bool) → (g.v k && g.v l) ≡ a → g.e k l ≡ b → ◌≡◌ {A = ℕ × World.Graph} (cond a (cond b (4, g) (1, with_edge true)) (3, g)) (r, h)
        → Does (Ask.AddE k l)
    adds_e true true e f p = named (add_e_there (ends_are e) f) refl p
    adds_e true false e f p =
        named (add_e_new (ends_are e) f (closes_none g k l (subst Loopless (sym (ap (λ x. x.1) p)) n))) (pair_left g ends k l true) p
    adds_e false b e f p = named (add_e_no_end (ends_are e)) refl p

    rems_e : (a b : Bool) → (g.v k && g.v l) ≡ a → g.e k l ≡ b → ◌≡◌ {A = ℕ × World.Graph} (cond a (cond b (1, with_edge false) (5, g)) (3, g)) (r, h)
        → Does (Ask.RemE k l)
    rems_e true true e f p = named (rem_e_there (ends_are e) f) (pair_left g ends k l false) p
    rems_e true false e f p = named (rem_e_none (ends_are e) f) refl p
    rems_e false b e f p = named (rem_e_no_end (ends_are e)) refl p

    cons_e : (b : Bool) → g.e k l ≡ b → ◌≡◌ {A = ℕ × World.Graph} (cond b 1 8, g) (r, h) → Does (Ask.ConE k l)
    cons_e true e p = named (con_e_there e) refl p
    cons_e false e p = named (con_e_none e) refl p

  pub alone_is : (q : World.Ask) → alone g q ≡ (r, h) → Does (asked_of q)
  alone_is (vert (addV k)) p = adds_v k (g.v k) refl p
  alone_is (vert (remV k)) p = rems_v k (g.v k) refl p
  alone_is (vert (conV k)) p = cons_v k (g.v k) refl p
  alone_is (addE k l) p = adds_e k l (g.v k && g.v l) (g.e k l) refl refl p
  alone_is (remE k l) p = rems_e k l (g.v k && g.v l) (g.e k l) refl refl p
  alone_is (conE k l) p = cons_e k l (g.e k l) refl p
