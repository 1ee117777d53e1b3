-- Lists of numbers with no number twice, kept and gathered;
-- and different numbers of a range are no more than the range has.
use Prim.Native.Nat.{ℕ, zero, suc, ◌+◌, ◌<◌, ◌≤◌}
use mathlib.Core.Bool.{Bool, true, false}
use mathlib.Core.List.{List, [], ◌∷◌, ◌++◌}
use mathlib.Core.Path.{◌≡◌, refl, sym, ap, ◌∙◌}
use native.Mathlib.Omega.{arith}
use lib.ListN.{length}
use lib.Dec.{eqb}
use borrow.Author.Tests.{eqb-true, eqb-false, ne_eqb}
use Rattle.catalogue.specs.Tests.{pick, keep}
use Rattle.catalogue.specs.Live.{gather}
use Rattle.laws.proofs.Picks.{pick_both, clash}
use Rattle.laws.proofs.Members.{All, all_each, all_join, all_append, all_gather, all_keep, kept_all, keep_all}

-- no number twice
abbrev pub Distinct : List ℕ → Type 0
Distinct [] = Unit {0}
Distinct (x ∷ l) = All (λ y. y ≡ x → ⊥) l × Distinct l

pub distinct_append : (a b : List ℕ) → Distinct a → Distinct b → All (λ x. All (λ y. y ≡ x → ⊥) b) a → Distinct (a ++ b)
distinct_append [] b d e n = e
distinct_append (x ∷ a) b d e n = (all_append (λ y. y ≡ x → ⊥) a b d.0 n.0, distinct_append a b d.1 e n.1)

-- different owners own different things
pub distinct_gather : (owner : ℕ → ℕ) (f : ℕ → List ℕ) (l : List ℕ) → Distinct l → All (λ x. Distinct (f x)) l → All (λ x. All (λ y. owner y ≡ x) (f x)) l
    → Distinct (gather f l)
unfolding gather
distinct_gather owner f [] d each own = tt
distinct_gather owner f (x ∷ l) d each own =
    distinct_append (f x) (gather f l) each.0 (distinct_gather owner f l d.1 each.1 own.1)
    (all_each (λ y. owner y ≡ x) (λ y. All (λ z. z ≡ y → ⊥) (gather f l))
    (λ y q. all_each (λ z. owner z ≡ x → ⊥) (λ z. z ≡ y → ⊥) (λ z n e. n (ap owner e ∙ q)) (gather f l) others) (f x) own.0)
  where
    others : All (λ z. owner z ≡ x → ⊥) (gather f l)
    others =
        all_gather (λ z. owner z ≡ x → ⊥) f l
        (all_each (λ y. (y ≡ x → ⊥) × All (λ z. owner z ≡ y) (f y)) (λ y. All (λ z. owner z ≡ x → ⊥) (f y))
        (λ y h. all_each (λ z. owner z ≡ y) (λ z. owner z ≡ x → ⊥) (λ z q e. h.0 (sym q ∙ e)) (f y) h.1) l
        (all_join (λ y. y ≡ x → ⊥) (λ y. All (λ z. owner z ≡ y) (f y)) l d.0 own.1))

abbrev other : ℕ → ℕ → Bool
other v y = pick (eqb y v) false true

is_other : (v y : ℕ) → (y ≡ v → ⊥) → other v y ≡ true
is_other v y h = rw (ne_eqb y v h) refl

not_same : (v y : ℕ) → other v y ≡ true → y ≡ v → ⊥
not_same v y = pick_both (λ t. t ≡ true → y ≡ v → ⊥) (eqb y v) false true (λ q e. clash (cc)) (λ q e. eqb-false y v q)

pub distinct_keep : (test : ℕ → Bool) (l : List ℕ) → Distinct l → Distinct (keep test l)
unfolding keep
distinct_keep test [] h = tt
distinct_keep test (x ∷ l) h =
    let rest = distinct_keep test l h.1 in
    pick_both Distinct (test x) (x ∷ keep test l) (keep test l) (λ e. (kept_all (λ y. y ≡ x → ⊥) test l h.0, rest)) (λ e. rest)

-- one value stands there once at most
one_less : (v : ℕ) (l : List ℕ) → Distinct l → length l ≤ suc (length (keep (other v) l))
unfolding keep
one_less v [] h = omega arith
one_less v (x ∷ l) h = by (eqb x v) refl (one_less v l h.1)
  where
    by : (t : Bool) → eqb x v ≡ t → length l ≤ suc (length (keep (other v) l)) → length (x ∷ l) ≤ suc (length (keep (other v) (x ∷ l)))
    by true e b =
        let same : x ≡ v = eqb-true x v e in
        rw (e, keep_all (other v) l (all_each (λ y. y ≡ x → ⊥) (λ y. other v y ≡ true) (λ y n. is_other v y (λ q. n (q ∙ sym same))) l h.0)) (omega arith)
    by false e b = rw e (omega arith)

pub pigeons : (low size : ℕ) (l : List ℕ) → Distinct l → All (λ x. (low ≤ x) × (x < low + size)) l → length l ≤ size
pigeons low zero [] d h = omega arith
pigeons low zero (x ∷ l) d h = let b = h.0 in absurd (omega arith)
pigeons low (suc size) l d h =
    let v : ℕ = low + size in
    let rest =
    pigeons low size (keep (other v) l) (distinct_keep (other v) l d)
    (all_each (λ x. ((low ≤ x) × (x < low + suc size)) × (other v x ≡ true)) (λ x. (low ≤ x) × (x < low + size))
    (λ x b. let n = not_same (low + size) x b.1 in let c = b.0 in omega arith) (keep (other v) l) (all_keep (λ x. (low ≤ x) × (x < low + suc size)) (other v) l h))
    in
    omega (arith, one_less v l d)
