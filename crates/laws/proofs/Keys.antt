-- Keys in rising order: what a list of nodes whose keys rise implies for its nodes.
use Prim.Native.Nat.{ℕ}
use mathlib.Core.Bool.{Bool, true, false}
use mathlib.Core.List.{List, [], ◌∷◌, map}
use mathlib.Core.Path.{◌≡◌, refl, sym, subst}
use native.Mathlib.Omega.{arith}
use lib.IntN.{ℤ, pos, negsuc}
use lib.Dec.{T, ltb→lt, lt→ltb}
use lib.Signed.{lt_z, ◌<ℤ◌, ◌≤ℤ◌, lt_z_yes, lt_z_no, <ℤ_irrefl, <ℤ-≤ℤ_trans, clash_ℤ}
use Rattle.catalogue.specs.Tests.{keep}
use Rattle.laws.proofs.Picks.{pick_both}
use Rattle.laws.proofs.Members.{All, all_each, map_all, keys_kept}
use Rattle.laws.proofs.Distinct.{Distinct}

through : (a b c : ℤ) → T (lt_z a b) → T (lt_z b c) → T (lt_z a c)
through (pos a) (pos b) (pos c) h k = omega (arith, ltb→lt, lt→ltb)
through (pos a) (pos b) (negsuc c) h k = k
through (pos a) (negsuc b) c h k = absurd h
through (negsuc a) (pos b) (pos c) h k = tt
through (negsuc a) (pos b) (negsuc c) h k = absurd k
through (negsuc a) (negsuc b) (pos c) h k = tt
through (negsuc a) (negsuc b) (negsuc c) h k = omega (arith, ltb→lt, lt→ltb)

pub <ℤ-trans : {a b c : ℤ} → a <ℤ b → b <ℤ c → a <ℤ c
<ℤ-trans {a} {b} {c} h k = lt_z_yes (through a b c h.lt k.lt)

-- the test of the definitions, as the order
pub rises : (a b : ℤ) → lt_z a b ≡ true → a <ℤ b
rises a b e = lt_z_yes (subst T (sym e) tt)

yes : (t : Bool) → T t → t ≡ true
yes true h = refl
yes false h = absurd h

pub risen : (a b : ℤ) → a <ℤ b → lt_z a b ≡ true
risen a b h = yes (lt_z a b) h.lt

pub ≤ℤ-<ℤ-trans : {a b c : ℤ} → a ≤ℤ b → b <ℤ c → a <ℤ c
≤ℤ-<ℤ-trans {a} {b} {c} h k = by (lt_z a c) refl
  where
    by : (t : Bool) → lt_z a c ≡ t → a <ℤ c
    by true e = rises a c e
    by false e = clash_ℤ (<ℤ-≤ℤ_trans k (lt_z_no {a = a} {b = c} (rw e tt))) h

abbrev pub Rising : List ℤ → Type 0
Rising [] = Unit {0}
Rising (k ∷ ks) = All (λ l. k <ℤ l) ks × Rising ks

module _ (key : ℕ → ℤ) where
  pub rising_keep : (test : ℕ → Bool) (l : List ℕ) → Rising (map key l) → Rising (map key (keep test l))
  unfolding keep
  rising_keep test [] h = tt
  rising_keep test (x ∷ l) h =
      let rest = rising_keep test l h.1 in
      pick_both (λ r. Rising (map key r)) (test x) (x ∷ keep test l) (keep test l)
      (λ e. (keys_kept (λ k. key x <ℤ k) key test l h.0, rest))
      (λ e. rest)

  pub rising_distinct : (l : List ℕ) → Rising (map key l) → Distinct l
  rising_distinct [] h = tt
  rising_distinct (x ∷ l) h = (
    all_each (λ y. key x <ℤ key y) (λ y. y ≡ x → ⊥)
        (λ y b e. <ℤ_irrefl {a = key x} (subst (λ (z : ℕ). key x <ℤ key z) e b)) l (map_all (λ k. key x <ℤ k) key l h.0),
    rising_distinct l h.1,
  )
