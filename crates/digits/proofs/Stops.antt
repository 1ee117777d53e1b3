-- A piece ends where its number ends: with the byte after it, it is no longer one.
use Prim.Native.Nat.{ℕ}
use mathlib.Core.Bool.{Bool, true, false}
use mathlib.Core.List.{List, [], ◌∷◌, ◌++◌}
use mathlib.Core.Logic.{inl, inr}
use mathlib.Core.Option.{none}
use mathlib.Core.Path.{◌≡◌, refl, ap, ◌∙◌}
use lib.ListN.{length, drop}
use Rattle.catalogue.specs.Tests.{pick}
use Rattle.catalogue.specs.Script.{natural, signed}
use Rattle.laws.proofs.Cases.{same?}
use Rattle.laws.proofs.Picks.{clash}
use Rattle.digits.specs.Digits.{digit, digits_of, signed_of}
use Rattle.digits.proofs.Values.{natural_not}
use Rattle.digits.proofs.Signs.{cut_minus, signed_minus, cut_plain, plain_piece}

digits_rest : (t : List ℕ) (b : ℕ) (bs : List ℕ) → drop (length (digits_of t)) t ≡ b ∷ bs → digit b ≡ false
unfolding digits_of
digits_rest [] b bs e = clash (cc)
digits_rest (c ∷ cs) b bs e = by (digit c) refl (digits_rest cs b bs) e
  where
    by : (t : Bool) → digit c ≡ t → (drop (length (digits_of cs)) cs ≡ b ∷ bs → digit b ≡ false) → drop (length (pick t (c ∷ digits_of cs) [])) (c ∷ cs) ≡ b ∷ bs → digit b ≡ false
    by true q rest e = rest e
    by false q rest e = let s : b ≡ c = cc in ap digit s ∙ q

rest_first : (c : ℕ) (cs : List ℕ) (b : ℕ) (bs : List ℕ) → drop (length (digits_of (c ∷ cs))) (c ∷ cs) ≡ b ∷ bs → digit c ≡ false → b ≡ c
unfolding digits_of
rest_first c cs b bs e t = let s : c ∷ cs ≡ b ∷ bs = rw t at e in cc

module _ (b : ℕ) (bs v : List ℕ) where
  pub number_stops : (t : List ℕ) → drop (length (digits_of t)) t ≡ b ∷ bs → natural (digits_of t ++ (b ∷ v)) ≡ none
  number_stops t e = natural_not (digits_of t) v b (digits_rest t b bs e)

  pub signed_stops : (t : List ℕ) → drop (length (signed_of t)) t ≡ b ∷ bs → signed (signed_of t ++ (b ∷ v)) ≡ none
  unfolding signed_of
  signed_stops [] e = clash (cc)
  signed_stops (c ∷ cs) e =
      elim (same? c 45) [
        | inl q ↦ rw (cut_minus c cs q) (signed_minus c (digits_of cs ++ (b ∷ v)) q ∙ rw (number_stops cs (rw (cut_minus c cs q) at e)))
        | inr n ↦ rw (cut_plain c cs n)
            (plain_piece c cs n (b ∷ v) (λ d ds q t. let s : d ≡ b = cc in s ∙ rest_first c cs b bs (rw (cut_plain c cs n) at e) t) ∙ rw (number_stops (c ∷ cs) (rw (cut_plain c cs n) at e)))
      ]
