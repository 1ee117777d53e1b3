-- A negative number is a minus and its magnitude, any other its magnitude alone.
use Prim.Native.Nat.{ℕ, ◌+◌, ◌≤◌}
use mathlib.Core.Bool.{true, false, false≢true}
use mathlib.Core.List.{List, [], ◌∷◌}
use mathlib.Core.Path.{◌≡◌, refl, sym, ap, ◌∙◌}
use native.Mathlib.Omega.{arith}
use mir.Syntax.{w32}
use mir.Val.{SFits, of_z, to_z}
use mir.Facts.{to_z-of_z}
use lib.IntN.{ℤ, pos, negsuc, nat_abs}
use lib.ListN.{length}
use lib.Signed.{lt_z}
use borrow.Author.Tests.{ltb-true}
use Rattle.catalogue.specs.Text.{decimal, number}
use Rattle.text.specs.Puts.{put_at}
use Rattle.text.proofs.Decimals.{length_number}
use Rattle.text.proofs.Runs.{put_then, end_then}

-- what the code's casts read of a number
abbrev pub read : ℤ → ℤ
read z = to_z w32 (of_z w32 z)

negative : (z : ℤ) → lt_z z (pos 0) ≡ true → number z ≡ 45 ∷ decimal (nat_abs z)
unfolding number
negative (pos n) e = absurd (omega (arith, ltb-true n 0 e))
negative (negsuc n) e = refl

other : (z : ℤ) → lt_z z (pos 0) ≡ false → number z ≡ decimal (nat_abs z)
unfolding number
other (pos n) e = refl
other (negsuc n) e = absurd (false≢true (sym e))

-- the code has a number's magnitude by a callee, which reads the number of its bits
module _ (z : ℤ) (size : ℕ) (f : SFits w32 z) (s : size ≡ nat_abs (read z)) (at : ℕ) where
  module _ (sign : lt_z (read z) (pos 0) ≡ true) (mid : ℕ) (next : mid ≡ at + 1) where
    spelt : 45 ∷ decimal size ≡ number z
    spelt = rw (s, to_z-of_z f) (sym (negative z (rw (to_z-of_z f) at sign)))

    pub negative_put : (l m k : List ℕ) → m ≡ put_at l at (45 ∷ []) → k ≡ put_at m mid (decimal size) → at + 11 ≤ length l → k ≡ put_at l at (number z)
    negative_put l m k first second room =
        put_then at mid (45 ∷ []) (decimal size) next l m k first second (omega (arith, ap length spelt, length_number z f)) ∙ ap (put_at l at) spelt

    pub negative_end : (end : ℕ) → end ≡ mid + length (decimal size) → end ≡ at + length (number z)
    negative_end end last = end_then at mid (45 ∷ []) (decimal size) next end last ∙ ap (λ bytes. at + length bytes) spelt

  module _ (sign : lt_z (read z) (pos 0) ≡ false) where
    plain : decimal size ≡ number z
    plain = rw (s, to_z-of_z f) (sym (other z (rw (to_z-of_z f) at sign)))

    pub other_put : (l k : List ℕ) → k ≡ put_at l at (decimal size) → k ≡ put_at l at (number z)
    other_put l k e = e ∙ ap (put_at l at) plain

    pub other_end : (end : ℕ) → end ≡ at + length (decimal size) → end ≡ at + length (number z)
    other_end end e = e ∙ ap (λ bytes. at + length bytes) plain

pub ruleset signs = (negative_put, negative_end, other_put, other_end)
