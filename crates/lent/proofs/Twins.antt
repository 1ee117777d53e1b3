-- Two definitions that go by the same tests and reads give the same, of which P holds,
-- where that is so in every case.
use Prim.Native.Nat.{ℕ}
use mathlib.Core.Bool.{Bool, true, false}
use mathlib.Core.Path.{◌≡◌, refl, subst}
use Rattle.catalogue.specs.Tests.{pick}
use Rattle.catalogue.specs.Numbers.{some_link}
use Rattle.catalogue.specs.Catalogue.{at_link, at_target}
use Rattle.catalogue.specs.Steps.Both.{at_both}
use Rattle.std.proofs.Common.{Option, Some, None}
use Rattle.catalogue.specs.declared.links.Link.{Link}
use Rattle.catalogue.specs.declared.steps.BothSeen.{BothSeen}
use Rattle.catalogue.specs.declared.steps.BothSeen.TheVariants as both

-- the same on both sides, and P holds of it
pub record Twin {A : Type 0} (P : A → Type 0) (a b : A) : Type 0 where
  pub same : a ≡ b
  pub good : P a

pub twin : {A : Type 0} {P : A → Type 0} (a : A) → P a → Twin P a a
twin a p = record { same = refl; good = p }

-- the same, and no more
abbrev pub Same : {A : Type 0} → A → A → Type 0
Same = Twin (λ x. Unit {0})

-- what follows from a thing that is the same
pub through : {A B : Type 0} {P : A → Type 0} {Q : B → Type 0} (f g : A → B) → ((a : A) → P a → Twin Q (f a) (g a))
    → {a b : A} → Twin P a b → Twin Q (f a) (g b)
through {Q = Q} f g h {a} {b} t = subst (λ x. Twin Q (f a) (g x)) t.same (h a t.good)

module _ {A : Type 0} {P : A → Type 0} where
  -- the same test
  pub pick_twin : (t : Bool) {a b a' b' : A} → (t ≡ true → Twin P a a') → (t ≡ false → Twin P b b') → Twin P (pick t a b) (pick t a' b')
  pick_twin true f g = f refl
  pick_twin false f g = g refl

  -- the same read
  pub link_twin : (l l' : Option (Link ℕ)) {torn torn' : A} {f f' : ℕ → ℕ → A} → l ≡ l' → Twin P torn torn'
      → ((next tag : ℕ) → l ≡ some_link next tag → Twin P (f next tag) (f' next tag)) → Twin P (at_link l torn f) (at_link l' torn' f')
  link_twin (Some l) l' e t g = rw (← e) (g l.next l.tag refl)
  link_twin None l' e t g = rw (← e) t

  pub target_twin : (l l' : Option ℕ) {torn torn' : A} {f f' : ℕ → A} → l ≡ l' → Twin P torn torn'
      → ((n : ℕ) → l ≡ Some n → Twin P (f n) (f' n)) → Twin P (at_target l torn f) (at_target l' torn' f')
  target_twin (Some n) l' e t g = rw (← e) (g n refl)
  target_twin None l' e t g = rw (← e) t

  pub both_twin : (l l' : BothSeen) {torn dead standing torn' dead' standing' : A} → l ≡ l' → Twin P torn torn' → Twin P dead dead'
      → Twin P standing standing' → Twin P (at_both l torn dead standing) (at_both l' torn' dead' standing')
  both_twin both.Torn l' e t d s = rw (← e) t
  both_twin both.Dead l' e t d s = rw (← e) d
  both_twin both.Standing l' e t d s = rw (← e) s
