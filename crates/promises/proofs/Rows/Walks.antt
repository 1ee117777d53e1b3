-- Whether a walk leads from one series to another is decided pair by pair.
-- A walk that may use one pair more uses it, or does without it.
use mathlib.Core.Bool.{Bool, true, false}
use mathlib.Core.List.{List, [], ◌∷◌}
use mathlib.Core.Logic.{◌⊎◌, inl, inr}
use mathlib.Core.Path.{◌≡◌, refl}
use lib.IntN.{ℤ}
use Rattle.catalogue.specs.Tests.{pick, eq_z}
use Rattle.laws.proofs.Picks.{pick_both, clash}
use Rattle.laws.proofs.Rules.{eq_z_refl, eq_z_eq}
use Rattle.row.proofs.Tests.{same_key?}
use Rattle.promises.specs.Graphs.{Graph, Walk, here, over, among, same_pair}

abbrev pub Known : Type 0 → Type 0
Known A = A ⊎ (A → ⊥)

-- ---- walks

abbrev Kept : Graph → Graph → Type 0
Kept g h = (i j : ℤ) → g.derived i j ≡ true → h.derived i j ≡ true

walk_up : {g h : Graph} → Kept g h → {to from : ℤ} → Walk g to from → Walk h to from
walk_up f here = here
walk_up f (over {from} next e w) = over next (f from next e) (walk_up f w)

pub walk_on : {g : Graph} {to by from : ℤ} → Walk g by from → Walk g to by → Walk g to from
walk_on here v = v
walk_on (over next e w) v = over next e (walk_on w v)

-- ---- h is g with the pair a, b

module _ (g h : Graph) (a b : ℤ) (up : Kept g h) (new : h.derived a b ≡ true)
    (back : (i j : ℤ) → h.derived i j ≡ true → (g.derived i j ≡ true) ⊎ ((i ≡ a) × (j ≡ b))) where
  -- a walk does without the pair, or before its first use and after its last
  walk_back : {to from : ℤ} → Walk h to from → Walk g to from ⊎ (Walk g a from × Walk g to b)
  walk_back here = inl here
  walk_back {to} (over {from} next e w) =
      elim (walk_back w) [
        | inl v ↦ elim (back from next e) [ inl f ↦ inl (over next f v) | inr q ↦ inr (rw q.0 here, rw q.1 at v) ]
        | inr v ↦ elim (back from next e) [ inl f ↦ inr (over next f v.0, v.1) | inr q ↦ inr (rw q.0 here, v.1) ]
      ]

  known_with : ((to from : ℤ) → Known (Walk g to from)) → (to from : ℤ) → Known (Walk h to from)
  known_with d to from =
      elim (d to from) [
        | inl w ↦ inl (walk_up up w)
        | inr n ↦
            elim (d a from) [
              | inr m ↦ inr (λ w. elim (walk_back w) [ inl v ↦ n v | inr v ↦ m v.0 ])
              | inl v ↦
                  elim (d to b) [
                    | inl w ↦ inl (walk_on (walk_up up v) (over b new (walk_up up w)))
                    | inr m ↦ inr (λ w. elim (walk_back w) [ inl x ↦ n x | inr x ↦ m x.1 ])
                  ]
            ]
      ]

-- ---- the pairs of a live graph

module _ (series : ℤ → Bool) where
  abbrev of_pairs : List (ℤ × ℤ) → Graph
  of_pairs l = record { series = series; derived = λ i j. among same_pair (i, j) l }

  module _ (p : ℤ × ℤ) (l : List (ℤ × ℤ)) where
    kept_pairs : Kept (of_pairs l) (of_pairs (p ∷ l))
    unfolding among
    kept_pairs i j e = pick_both (λ t. t ≡ true) (same_pair (i, j) p) _ _ (λ f. refl) (λ f. e)

    one_more : (of_pairs (p ∷ l)).derived p.0 p.1 ≡ true
    unfolding among
    one_more = rw (eq_z_refl p.0, eq_z_refl p.1) refl

    that_one : (i j : ℤ) → (of_pairs (p ∷ l)).derived i j ≡ true → ((of_pairs l).derived i j ≡ true) ⊎ ((i ≡ p.0) × (j ≡ p.1))
    unfolding among
    that_one i j = by (eq_z i p.0) (eq_z j p.1) refl refl
      where
        by : (x y : Bool) → eq_z i p.0 ≡ x → eq_z j p.1 ≡ y → pick (pick x y false) true (among same_pair (i, j) l) ≡ true
            → (among same_pair (i, j) l ≡ true) ⊎ ((i ≡ p.0) × (j ≡ p.1))
        by true true e f q = inr (eq_z_eq i p.0 e, eq_z_eq j p.1 f)
        by true false e f q = inl q
        by false y e f q = inl q

  none_known : (to from : ℤ) → Known (Walk (of_pairs []) to from)
  unfolding among
  none_known to from =
      elim (same_key? from to) [
        | inl e ↦ inl (rw e here)
        | inr n ↦ inr (λ w. n (stays w))
      ]
    where
      stays : {to from : ℤ} → Walk (of_pairs []) to from → from ≡ to
      stays here = refl
      stays (over next e w) = clash (cc)

  pub walk_known : (l : List (ℤ × ℤ)) (to from : ℤ) → Known (Walk (of_pairs l) to from)
  walk_known [] to from = none_known to from
  walk_known (p ∷ l) to from = known_with (of_pairs l) (of_pairs (p ∷ l)) p.0 p.1 (kept_pairs p l) (one_more p l) (that_one p l) (walk_known l) to from
