-- What holds of every member of a list: how it passes through the tests and the lists that the definitions make.
use Prim.Native.Nat.{ℕ, zero, suc, ◌<◌, ◌≤◌}
use mathlib.Core.Bool.{Bool, true, false}
use mathlib.Core.List.{List, [], ◌∷◌, ◌++◌, map}
use mathlib.Core.Path.{◌≡◌, refl, ap, ap₂}
use native.Mathlib.Omega.{arith}
use lib.ListN.{length, get_or}
use lib.Dec.{eqb}
use borrow.Author.Tests.{eq-eqb, eqb-true}
use Rattle.catalogue.specs.Tests.{pick, keep, every, member}
use Rattle.catalogue.specs.Live.{gather}
use Rattle.laws.proofs.Picks.{clash, both_true, pick_both}

abbrev pub All : {A : Type 0} → (A → Type 0) → List A → Type 0
All P [] = Unit {0}
All P (x ∷ l) = P x × All P l

-- a choice by clauses is `pick`
pub chosen : {A : Type 0} (t : Bool) (a b : A) → elim t [ true ↦ a | false ↦ b ] ≡ pick t a b
chosen true a b = refl
chosen false a b = refl

module _ {A : Type 0} where
  pub all_each : (P Q : A → Type 0) → ((x : A) → P x → Q x) → (l : List A) → All P l → All Q l
  all_each P Q f [] h = tt
  all_each P Q f (x ∷ l) h = (f x h.0, all_each P Q f l h.1)

  pub all_any : (P : A → Type 0) → ((x : A) → P x) → (l : List A) → All P l
  all_any P f [] = tt
  all_any P f (x ∷ l) = (f x, all_any P f l)

  pub all_join : (P Q : A → Type 0) (l : List A) → All P l → All Q l → All (λ x. P x × Q x) l
  all_join P Q [] h g = tt
  all_join P Q (x ∷ l) h g = ((h.0, g.0), all_join P Q l h.1 g.1)

  pub all_append : (P : A → Type 0) (a b : List A) → All P a → All P b → All P (a ++ b)
  all_append P [] b h g = g
  all_append P (x ∷ a) b h g = (h.0, all_append P a b h.1 g)

  pub all_parts : (P : A → Type 0) (a b : List A) → All P (a ++ b) → All P a × All P b
  all_parts P [] b h = (tt, h)
  all_parts P (x ∷ a) b h = let r = all_parts P a b h.1 in ((h.0, r.0), r.1)

  pub all_at : (P : A → Type 0) (d : A) (l : List A) (i : ℕ) → All P l → i < length l → P (get_or l i d)
  all_at P d [] i h b = absurd (omega arith)
  all_at P d (x ∷ l) zero h b = h.0
  all_at P d (x ∷ l) (suc i) h b = all_at P d l i h.1 (omega arith)

  pub all_map : {B : Type 0} (P : B → Type 0) (f : A → B) (l : List A) → All (λ x. P (f x)) l → All P (map f l)
  all_map P f [] h = tt
  all_map P f (x ∷ l) h = (h.0, all_map P f l h.1)

  pub map_all : {B : Type 0} (P : B → Type 0) (f : A → B) (l : List A) → All P (map f l) → All (λ x. P (f x)) l
  map_all P f [] h = tt
  map_all P f (x ∷ l) h = (h.0, map_all P f l h.1)

  pub all_gather : (P : A → Type 0) (f : ℕ → List A) (l : List ℕ) → All (λ x. All P (f x)) l → All P (gather f l)
  unfolding gather
  all_gather P f [] h = tt
  all_gather P f (x ∷ l) h = all_append P (f x) (gather f l) h.0 (all_gather P f l h.1)

  pub gather_all : (P : A → Type 0) (f : ℕ → List A) (l : List ℕ) → All P (gather f l) → All (λ x. All P (f x)) l
  unfolding gather
  gather_all P f [] h = tt
  gather_all P f (x ∷ l) h = let r = all_parts P (f x) (gather f l) h in (r.0, gather_all P f l r.1)

  -- the tests of the definitions
  pub every_all : (test : A → Bool) (l : List A) → every test l ≡ true → All (λ x. test x ≡ true) l
  unfolding every
  every_all test [] e = tt
  every_all test (x ∷ l) e = let r = both_true (test x) (every test l) e in (r.0, every_all test l r.1)

  pub all_every : (test : A → Bool) (l : List A) → All (λ x. test x ≡ true) l → every test l ≡ true
  unfolding every
  all_every test [] h = refl
  all_every test (x ∷ l) h = rw h.0 (all_every test l h.1)

  pub all_keep : (P : A → Type 0) (test : A → Bool) (l : List A) → All P l → All (λ x. P x × (test x ≡ true)) (keep test l)
  unfolding keep
  all_keep P test [] h = tt
  all_keep P test (x ∷ l) h =
      let rest = all_keep P test l h.1 in
      pick_both (All (λ x. P x × (test x ≡ true))) (test x) (x ∷ keep test l) (keep test l) (λ e. ((h.0, e), rest)) (λ e. rest)

  pub kept_all : (P : A → Type 0) (test : A → Bool) (l : List A) → All P l → All P (keep test l)
  kept_all P test l h = all_each (λ x. P x × (test x ≡ true)) P (λ x p. p.0) (keep test l) (all_keep P test l h)

  pub keys_kept : {B : Type 0} (P : B → Type 0) (key : A → B) (test : A → Bool) (l : List A) → All P (map key l) → All P (map key (keep test l))
  keys_kept P key test l h = all_map P key (keep test l) (kept_all (λ x. P (key x)) test l (map_all P key l h))

  pub keep_all : (test : A → Bool) (l : List A) → All (λ x. test x ≡ true) l → keep test l ≡ l
  unfolding keep
  keep_all test [] h = refl
  keep_all test (x ∷ l) h = rw h.0 (ap (λ r. x ∷ r) (keep_all test l h.1))

  pub keep_short : (test : A → Bool) (l : List A) → length (keep test l) ≤ length l
  unfolding keep
  keep_short test [] = omega arith
  keep_short test (x ∷ l) =
      let h : length (keep test l) ≤ length l = keep_short test l in
      pick_both (λ k. length k ≤ suc (length l)) (test x) (x ∷ keep test l) (keep test l) (λ e. omega arith) (λ e. omega arith)

  -- two functions that agree on the members
  pub map_same : {B : Type 0} (f g : A → B) (l : List A) → All (λ x. f x ≡ g x) l → map f l ≡ map g l
  map_same f g [] h = refl
  map_same f g (x ∷ l) h = ap₂ (λ b r. b ∷ r) h.0 (map_same f g l h.1)

-- ---- tests of membership: a thing is looked for from the front, with a test that it alone passes

module _ {A : Type 0} (same : A → A → Bool) (within : A → List A → Bool)
    (in_none : (y : A) → within y [] ≡ false) (in_pair : (y x : A) (l : List A) → within y (x ∷ l) ≡ pick (same y x) true (within y l)) where
  pub all_within : ((x : A) → same x x ≡ true) → (l : List A) → All (λ x. within x l ≡ true) l
  all_within self [] = tt
  all_within self (x ∷ l) = (
    rw (in_pair x x l, self x),
    all_each (λ y. within y l ≡ true) (λ y. within y (x ∷ l) ≡ true) (λ y e. rw (in_pair y x l) (pick_both (λ t. t ≡ true) (same y x) true (within y l) (λ q. refl) (λ q. e)))
        l (all_within self l),
  )

  pub of_within : ((y x : A) → same y x ≡ true → y ≡ x) → (P : A → Type 0) (l : List A) → All P l → (y : A) → within y l ≡ true → P y
  of_within is P [] h y m = clash (cc (in_none y))
  of_within is P (x ∷ l) h y m =
      pick_both (λ t. t ≡ true → P y) (same y x) true (within y l) (λ q e. rw (is y x q) h.0) (λ q. of_within is P l h.1 y) (rw (in_pair y x l) at m)

pub all_member : (l : List ℕ) → All (λ x. member x l ≡ true) l
unfolding member
all_member = all_within eqb member (λ y. refl) (λ y x l. refl) (λ x. eq-eqb x x refl)

pub all_of : (P : ℕ → Type 0) (l : List ℕ) → All P l → (y : ℕ) → member y l ≡ true → P y
unfolding member
all_of = of_within eqb member (λ y. refl) (λ y x l. refl) eqb-true

pub member_keep : (test : ℕ → Bool) (y : ℕ) (l : List ℕ) → member y l ≡ true → test y ≡ true → member y (keep test l) ≡ true
unfolding member keep
member_keep test y [] m e = m
member_keep test y (x ∷ l) m e = by (eqb y x) refl (test x) refl m (λ n. member_keep test y l n e)
  where
    by : (t : Bool) → eqb y x ≡ t → (u : Bool) → test x ≡ u → pick t true (member y l) ≡ true → (member y l ≡ true → member y (keep test l) ≡ true)
        → member y (pick u (x ∷ keep test l) (keep test l)) ≡ true
    by true q true p n h = rw q refl
    by true q false p n h = let same : y ≡ x = eqb-true y x q in clash (cc (ap test same))
    by false q true p n h = rw q (h n)
    by false q false p n h = h n
