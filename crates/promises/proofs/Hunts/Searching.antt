-- What a trial has met, taken, and still has to do: so it is before any vertex is met, and meeting and taking keep
-- it.
use Prim.Native.Nat.{ℕ}
use mathlib.Core.Bool.{Bool, true, false}
use mathlib.Core.List.{List, [], ◌∷◌, ◌++◌}
use mathlib.Core.Logic.{inl, inr}
use mathlib.Core.Path.{◌≡◌, refl, sym, ap, ◌∙◌, subst}
use Rattle.catalogue.specs.Tests.{upd}
use Rattle.laws.proofs.Picks.{clash}
use Rattle.laws.proofs.Rules.{not_true_false}
use Rattle.laws.proofs.Members.{All, all_each, all_join, all_append}
use Rattle.laws.proofs.Distinct.{Distinct, distinct_append}
use Rattle.row.proofs.Base.{upd_at, upd_other, upd_true, same?}
use Rattle.promises.proofs.Showing.Shows.{Series, Searched}

pub nobody_searched : (used : ℕ) → Searched used (λ x. false) [] (λ x. false)
nobody_searched used =
    record { met_series = λ x e. clash (cc); taken_met = λ x e. e; todo_met = tt; todo_new = tt; todo_once = tt }

module _ {used : ℕ} {met : ℕ → Bool} {todo : List ℕ} {taken : ℕ → Bool} (s : Searched used met todo taken) where
  pub searched_meets : (y : ℕ) → Series used y → met y ≡ false → Searched used (upd met y true) (todo ++ (y ∷ [])) taken
  searched_meets y i n = record {
    met_series = λ x e. elim (same? x y) [ inl q ↦ rw q i | inr d ↦ s.met_series x (sym (upd_other met y true x d) ∙ e) ];
    taken_met = λ x e. upd_true met y x (s.taken_met x e);
    todo_met = all_append _ todo (y ∷ []) (all_each _ _ (upd_true met y) todo s.todo_met) (upd_at met y true y refl, tt);
    todo_new = all_append _ todo (y ∷ []) s.todo_new (not_true_false (taken y) (λ e. clash (cc (s.taken_met y e))), tt);
    todo_once =
        distinct_append todo (y ∷ []) s.todo_once (tt, tt)
        (all_each (λ x. met x ≡ true) (λ x. All (λ z. z ≡ x → ⊥) (y ∷ [])) (λ x e. (λ q. clash (cc (ap met q)), tt)) todo s.todo_met);
  }

  -- the front of the queue was met, and not taken yet
  module _ (x : ℕ) (xs : List ℕ) (e : todo ≡ x ∷ xs) where
    front_of : (P : ℕ → Type 0) → All P todo → All P (x ∷ xs)
    front_of P a = subst (All P) e a

    pub front_met : met x ≡ true
    front_met = (front_of (λ y. met y ≡ true) s.todo_met).0

    pub front_new : taken x ≡ false
    front_new = (front_of (λ y. taken y ≡ false) s.todo_new).0

    pub searched_takes : Searched used met xs (upd taken x true)
    searched_takes =
        let once : Distinct (x ∷ xs) = subst Distinct e s.todo_once in
        record {
          met_series = s.met_series;
          taken_met = λ z t. elim (same? z x) [ inl q ↦ rw q front_met | inr d ↦ s.taken_met z (sym (upd_other taken x true z d) ∙ t) ];
          todo_met = (front_of (λ y. met y ≡ true) s.todo_met).1;
          todo_new =
              all_each (λ y. (y ≡ x → ⊥) × (taken y ≡ false)) (λ y. upd taken x true y ≡ false) (λ y h. upd_other taken x true y h.0 ∙ h.1) xs
              (all_join _ _ xs once.0 (front_of (λ y. taken y ≡ false) s.todo_new).1);
          todo_once = once.1;
        }
