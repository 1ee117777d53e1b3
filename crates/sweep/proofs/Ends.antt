-- A list with one more member at its end: what stands at each number.
use Prim.Native.Nat.{ℕ, zero, suc}
use mathlib.Core.List.{List, [], ◌∷◌, ◌++◌}
use mathlib.Core.Logic.{inl, inr}
use mathlib.Core.Path.{◌≡◌, sym, ◌∙◌}
use native.Mathlib.Omega.{arith}
use lib.ListN.{length, get_or}
use Rattle.catalogue.specs.Tests.{upd}
use Rattle.laws.proofs.Cases.{same?, upd_at, upd_other}

pub get_or_end : {A : Type 0} (l : List A) (v d : A) (n i : ℕ) → n ≡ length l → get_or (l ++ (v ∷ [])) i d ≡ upd (λ k. get_or l k d) n v i
get_or_end [] v d n zero e = sym (upd_at (λ k. get_or [] k d) n v 0 (sym e))
get_or_end [] v d n (suc i) e = sym (upd_other (λ k. get_or [] k d) n v (suc i) (omega arith))
get_or_end (x ∷ l) v d n zero e = sym (upd_other (λ k. get_or (x ∷ l) k d) n v 0 (omega arith))
get_or_end (x ∷ l) v d zero (suc i) e = absurd (omega arith)
get_or_end (x ∷ l) v d (suc n) (suc i) e =
    elim (same? i n) [
      | inl q ↦ get_or_end l v d n i (omega arith) ∙ upd_at (λ k. get_or l k d) n v i q ∙ sym (upd_at (λ k. get_or (x ∷ l) k d) (suc n) v (suc i) (omega arith))
      | inr q ↦
          get_or_end l v d n i (omega arith) ∙ upd_other (λ k. get_or l k d) n v i q
          ∙ sym (upd_other (λ k. get_or (x ∷ l) k d) (suc n) v (suc i) (omega arith))
    ]
