-- A key or a pair among others: what holds of all of them holds of it, and each of them is among them.
use mathlib.Core.Bool.{true}
use mathlib.Core.List.{List}
use mathlib.Core.Path.{◌≡◌, refl, ap₂}
use lib.IntN.{ℤ}
use Rattle.catalogue.specs.Tests.{eq_z}
use Rattle.laws.proofs.Picks.{both_true}
use Rattle.laws.proofs.Rules.{eq_z_refl, eq_z_eq}
use Rattle.laws.proofs.Members.{All, all_within, of_within}
use Rattle.promises.specs.Graphs.{among, same_pair}

pair_is : (p q : ℤ × ℤ) → same_pair p q ≡ true → p ≡ q
pair_is p q e =
    let z = both_true (eq_z p.0 q.0) (eq_z p.1 q.1) e in
    ap₂ (λ (k l : ℤ). (k, l)) (eq_z_eq p.0 q.0 z.0) (eq_z_eq p.1 q.1 z.1)

pair_self : (p : ℤ × ℤ) → same_pair p p ≡ true
pair_self p = rw (eq_z_refl p.0, eq_z_refl p.1) refl

pub of_keys : (P : ℤ → Type 0) (l : List ℤ) → All P l → (k : ℤ) → among eq_z k l ≡ true → P k
unfolding among
of_keys = of_within eq_z (among eq_z) (λ k. refl) (λ k m l. refl) eq_z_eq

pub all_keys : (l : List ℤ) → All (λ k. among eq_z k l ≡ true) l
unfolding among
all_keys = all_within eq_z (among eq_z) (λ k. refl) (λ k m l. refl) eq_z_refl

pub of_pairs : (P : ℤ × ℤ → Type 0) (l : List (ℤ × ℤ)) → All P l → (p : ℤ × ℤ) → among same_pair p l ≡ true → P p
unfolding among
of_pairs = of_within same_pair (among same_pair) (λ p. refl) (λ p q l. refl) pair_is

pub all_pairs : (l : List (ℤ × ℤ)) → All (λ p. among same_pair p l ≡ true) l
unfolding among
all_pairs = all_within same_pair (among same_pair) (λ p. refl) (λ p q l. refl) pair_self
