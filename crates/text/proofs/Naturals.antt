-- A number of 32 bits without a sign takes at most eleven places too, so the laws of lines hold for it unchanged.
use Prim.Native.Nat.{ℕ, ◌+◌, ◌≤◌, ◌<◌}
use mathlib.Core.List.{List, [], ◌∷◌}
use mathlib.Core.Path.{◌≡◌}
use native.Mathlib.Omega.{arith}
use borrow.Author.Rules.{rules}
use mir.Syntax.{w32}
use mir.Val.{Fits}
use lib.IntN.{pos}
use lib.ListN.{length}
use Rattle.catalogue.specs.Text.{decimal, number}
use Rattle.text.specs.Puts.{put_at}
use Rattle.text.proofs.Decimals.{length_decimal}
use Rattle.text.proofs.LineLaws.{followed, follow_room, follow_put, follow_end, last_put, last_end, rest_room, rest_put, rest_ends}

pub natural_short : (n : ℕ) → Fits w32 n → length (number (pos n)) ≤ 11
unfolding number
natural_short n f = omega (arith, length_decimal n f.fits)

module _ (n : ℕ) (f : Fits w32 n) (at mid : ℕ) (next : mid ≡ at + length (decimal n)) where
  pub natural_room : (l m : List ℕ) → length m ≡ length l → at + 12 ≤ length l → mid < length m
  unfolding number
  natural_room = follow_room (pos n) (natural_short n f) at mid next

  pub natural_put : (l m k : List ℕ) (b : ℕ) → m ≡ put_at l at (decimal n) → k ≡ put_at m mid (b ∷ []) → at + 12 ≤ length l → k ≡ put_at l at (followed (pos n) b)
  unfolding number
  natural_put = follow_put (pos n) (natural_short n f) at mid next

  pub natural_end : (end b : ℕ) → end ≡ mid + 1 → end ≡ at + length (followed (pos n) b)
  unfolding number
  natural_end = follow_end (pos n) (natural_short n f) at mid next

pub ruleset natural_cases = (tt, natural_short, natural_room, natural_put, natural_end, last_put, last_end, rest_room, rest_put, rest_ends, rules)
