-- Small laws of tests, options and lists of words that the proofs of all lines use.
use Prim.Native.Nat.{ℕ}
use mathlib.Core.Bool.{Bool, true, false}
use mathlib.Core.List.{List, [], ◌∷◌}
use mathlib.Core.Option.{none, some}
use mathlib.Core.Option as maybe
use Rattle.std.specs.Prelude.{Option, None, Some}
use mathlib.Core.Path.{◌≡◌, refl}
use Rattle.catalogue.specs.Tests.{pick, given, every}
use Rattle.catalogue.specs.Script.{all_of}
use Rattle.laws.proofs.Picks.{clash, pick_both}
use Rattle.digits.specs.Digits.{number_fits}

pub pick_through : {A B : Type 0} (f : A → B) (t : Bool) (a b : A) → f (pick t a b) ≡ pick t (f a) (f b)
pick_through f true a b = refl
pick_through f false a b = refl

module _ {A : Type 0} where
  pub pick_alike : (t : Bool) (a : A) → pick t a a ≡ a
  pick_alike true a = refl
  pick_alike false a = refl

  pub pick_in : (s t : Bool) (o other : A) → pick (pick s t false) o other ≡ pick s (pick t o other) other
  pick_in true t o other = refl
  pick_in false t o other = refl

  pub pick_taken : (t : Bool) (o : Option A) (a : A) → pick t o None ≡ Some a → (t ≡ true) × (o ≡ Some a)
  pick_taken true o a e = (refl, e)
  pick_taken false o a e = clash (cc)

  pub none_if : (o : maybe.Option A) → ((a : A) → o ≡ some a → ⊥) → o ≡ none
  none_if none h = refl
  none_if (some a) h = absurd (h a refl)

  -- a list one by one
  pub every_none : (test : A → Bool) → every test [] ≡ true
  unfolding every
  every_none test = refl

  pub every_pair : (test : A → Bool) (a : A) (as' : List A) → every test (a ∷ as') ≡ pick (test a) (every test as') false
  unfolding every
  every_pair test a as' = refl

  pub all_end : (f : List ℕ → maybe.Option A) → all_of f [] ≡ some []
  unfolding all_of
  all_end f = refl

  pub given_none : {B : Type 0} (o : maybe.Option B) (f : B → maybe.Option A) → ((b : B) → f b ≡ none) → given o none f ≡ none
  given_none none f never = refl
  given_none (some b) f never = never b

  pub given_pick : {B : Type 0} (t : Bool) (o : maybe.Option B) (f : B → maybe.Option A) → given o none (λ b. pick t (f b) none) ≡ pick t (given o none f) none
  given_pick true o f = refl
  given_pick false none f = refl
  given_pick false (some b) f = refl

  pub all_pair : {B : Type 0} (f : List ℕ → maybe.Option B) (w : List ℕ) (ws : List (List ℕ)) (g : List B → maybe.Option A)
      → given (all_of f (w ∷ ws)) none g ≡ given (f w) none (λ b. given (all_of f ws) none (λ bs. g (b ∷ bs)))
  unfolding all_of
  all_pair f w ws g = by (f w) (all_of f ws)
    where
      by : (o : maybe.Option _) (os : maybe.Option (List _)) → given (given o none (λ b. given os none (λ bs. some (b ∷ bs)))) none g ≡ given o none (λ b. given os none (λ bs. g (b ∷ bs)))
      by none os = refl
      by (some b) none = refl
      by (some b) (some bs) = refl

  -- a number too great is none, as far as what is made of it is
  pub fitting : (o : maybe.Option ℕ) (f : ℕ → maybe.Option A) → ((n : ℕ) → number_fits n ≡ false → f n ≡ none) → given o none f ≡ given o none (λ n. pick (number_fits n) (f n) none)
  fitting none f unfit = refl
  fitting (some n) f unfit = pick_both (λ x. f n ≡ x) (number_fits n) (f n) none (λ t. refl) (unfit n)
