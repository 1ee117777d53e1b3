-- What a walk finds from a node on, by what it finds there and from the next node on.
use Rattle.std.proofs.Common.{Some, None, Result, Ok, Err}
use Prim.Native.Nat.{ℕ, ◌-◌, ◌<◌}
use mathlib.Core.Bool.{Bool, true, false}
use mathlib.Core.List.{List, ◌∷◌}
use mathlib.Core.Path.{◌≡◌, refl, sym, ◌∙◌, ap}
use native.Mathlib.Omega.{arith}
use borrow.Author.Rules.{rules}
use lib.ListN.{replicate}
use Rattle.catalogue.specs.Tests.{pick, every}
use Rattle.catalogue.specs.Numbers.{tail}
use Rattle.catalogue.specs.Catalogue.{Catalogue}
use Rattle.catalogue.specs.Live.{walk, next_vertex}
use Rattle.catalogue.specs.Soundness.{vertex_sound}
use Rattle.laws.proofs.Picks.{pick_both, clash}
use Rattle.laws.proofs.Walks.{walk_spent, walk_end, walk_on}
use Rattle.survey.specs.Walks.{also_met, met_of, found, walk_from}

-- What a walk found says whether all passed, and what that is.
module _ {A : Type 0} (t : Bool) (a : A) where
  pub told_some : (b : A) → Some b ≡ pick t (Some a) None → (t ≡ true) × (b ≡ a)
  told_some b = pick_both (λ o. Some b ≡ o → (t ≡ true) × (b ≡ a)) t (Some a) None (λ h e. (h, cc)) (λ h e. clash (cc))

  pub told_none : None ≡ pick t (Some a) None → t ≡ false
  told_none = pick_both (λ o. None ≡ o → t ≡ false) t (Some a) None (λ h e. clash (cc)) (λ h e. h)

  pub told_ok : (b : A) → Ok b ≡ pick t (Ok a) (Err a) → (t ≡ true) × (b ≡ a)
  told_ok b = pick_both (λ o. Ok b ≡ o → (t ≡ true) × (b ≡ a)) t (Ok a) (Err a) (λ h e. (h, cc)) (λ h e. clash (cc))

  pub told_err : (b : A) → Err b ≡ pick t (Ok a) (Err a) → (t ≡ false) × (b ≡ a)
  told_err b = pick_both (λ o. Err b ≡ o → (t ≡ false) × (b ≡ a)) t (Ok a) (Err a) (λ h e. clash (cc)) (λ h e. (h, cc))

-- The vertex walk.
module _ (test : ℕ → Bool) where
  module _ (x : ℕ) (l : List ℕ) where
    found_on : (met : List ℕ) → test x ≡ true → Ok met ≡ found test l → Ok (also_met met x) ≡ found test (x ∷ l)
    unfolding every met_of
    found_on met s g = let told = told_ok (every test l) (met_of test l) met g in rw (s, told.0, told.1) refl

    found_stop : (met : List ℕ) → test x ≡ true → Err met ≡ found test l → Err (also_met met x) ≡ found test (x ∷ l)
    unfolding every met_of
    found_stop met s g = let told = told_err (every test l) (met_of test l) met g in rw (s, told.0, told.1) refl

    found_off : test x ≡ false → Err (replicate 4 0) ≡ found test (x ∷ l)
    unfolding every met_of
    found_off s = rw s refl

module _ (C : Catalogue) (left x : ℕ) where
  pub from_spent : left ≡ 0 → Ok (replicate 4 0) ≡ walk_from C left x
  unfolding walk_from every met_of
  from_spent e = sym (ap (found (vertex_sound C)) (walk_spent (next_vertex C) tail left x e))

  pub from_end : x ≡ 1 → Ok (replicate 4 0) ≡ walk_from C left x
  unfolding walk_from every met_of
  from_end e = sym (ap (found (vertex_sound C)) (walk_end (next_vertex C) tail left x e))

  module _ (t : Bool) (on : left ≡ 0 → ⊥) (short : x ≡ 1 → ⊥) (e : t ≡ vertex_sound C x) where
    module _ (q : t ≡ true) (y : ℕ) (f : y ≡ next_vertex C x) (rest : Result (List ℕ) (List ℕ)) (g : rest ≡ walk_from C (left - 1) y) where
      whole : found (vertex_sound C) (x ∷ walk (next_vertex C) tail (left - 1) y) ≡ walk_from C left x
      unfolding walk_from
      whole = sym (ap (found (vertex_sound C)) (walk_on (next_vertex C) tail left x y on short f))

      pub from_on : (met m : List ℕ) → rest ≡ Ok met → m ≡ also_met met x → Ok m ≡ walk_from C left x
      unfolding walk_from
      from_on met m p h = ap Ok h ∙ found_on (vertex_sound C) x (walk (next_vertex C) tail (left - 1) y) met (sym e ∙ q) (sym p ∙ g) ∙ whole

      pub from_stop : (met m : List ℕ) → rest ≡ Err met → m ≡ also_met met x → Err m ≡ walk_from C left x
      unfolding walk_from
      from_stop met m p h = ap Err h ∙ found_stop (vertex_sound C) x (walk (next_vertex C) tail (left - 1) y) met (sym e ∙ q) (sym p ∙ g) ∙ whole

    pub from_off : t ≡ false → Err (replicate 4 0) ≡ walk_from C left x
    unfolding walk_from
    from_off q =
        found_off (vertex_sound C) x (walk (next_vertex C) tail (left - 1) (next_vertex C x)) (sym e ∙ q)
        ∙ sym (ap (found (vertex_sound C)) (walk_on (next_vertex C) tail left x (next_vertex C x) on short refl))

-- the measure of a walk is what it has left
pub falls : (t left : ℕ) → left ≡ t → (left ≡ 0 → ⊥) → left - 1 < t
falls t left e h = omega arith

pub ruleset walk_cases = (from_spent, from_end, from_on, from_stop, from_off, falls, rules)
