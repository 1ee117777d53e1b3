-- The ones of four words, summed: they are few, and they are the numbers in the set.
use Rattle.std.proofs.Common.{ℕ, ◌+◌, ◌≡◌, sym, ◌∙◌, ◌<◌, ◌^◌, List, [], ◌∷◌, length, sum_by, get_or, arith}
use mir.Syntax.{w64}
use mir.Val.{Fits}
use lib.Count.{ones, ones-le}
use Rattle.catalogue.specs.Workers.{met_count}
use Rattle.laws.proofs.MetLaws.{count_is}

sum_four : (met : List ℕ) → length met ≡ 4 → sum_by ones met ≡ ones (get_or met 0 0) + ones (get_or met 1 0) + ones (get_or met 2 0) + ones (get_or met 3 0)
sum_four (a ∷ (b ∷ (c ∷ (d ∷ [])))) e = let f : 0 + ones a + ones b + ones c + ones d ≡ ones a + ones b + ones c + ones d = omega arith in f
sum_four [] e = absurd (omega arith)
sum_four (a ∷ []) e = absurd (omega arith)
sum_four (a ∷ (b ∷ [])) e = absurd (omega arith)
sum_four (a ∷ (b ∷ (c ∷ []))) e = absurd (omega arith)
sum_four (a ∷ (b ∷ (c ∷ (d ∷ (x ∷ l))))) e = absurd (omega arith)

few : (w : ℕ) → Fits w64 w → ones w < 65
few w h = let e = ones-le 64 w h.fits in omega arith

module _ (met : List ℕ) (long : length met ≡ 4)
    (h0 : Fits w64 (get_or met 0 0)) (h1 : Fits w64 (get_or met 1 0)) (h2 : Fits w64 (get_or met 2 0)) (h3 : Fits w64 (get_or met 3 0)) where
  pub ones_fit : sum_by ones met < 2 ^ 32
  ones_fit = omega (arith, sum_four met long, few _ h0, few _ h1, few _ h2, few _ h3)

  pub ones_count : sum_by ones met ≡ met_count met
  ones_count = sum_four met long ∙ count_is met h0.fits h1.fits h2.fits h3.fits

-- The same of any four words that are those of a set.
pub ones_same : (l met : List ℕ) → length l ≡ 4
    → get_or l 0 0 ≡ get_or met 0 0 → get_or l 1 0 ≡ get_or met 1 0 → get_or l 2 0 ≡ get_or met 2 0 → get_or l 3 0 ≡ get_or met 3 0
    → sum_by ones met ≡ met_count met → length met ≡ 4 → sum_by ones l ≡ met_count met
ones_same l met long e0 e1 e2 e3 same own = sum_four l long ∙ rw (e0, e1, e2, e3) (sym (sum_four met own) ∙ same)
