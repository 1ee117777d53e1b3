-- A number of 32 bits and the byte after it take at most twelve places.
-- A line is its first number, a space and the line of the others.
use Prim.Native.Nat.{ℕ, ◌+◌, ◌*◌, ◌≤◌, ◌<◌}
use mathlib.Core.List.{List, [], ◌∷◌, ◌++◌, map, append_assoc}
use mathlib.Core.Path.{◌≡◌, refl, sym, ap, ◌∙◌}
use native.Mathlib.Omega.{arith}
use mir.Syntax.{w32}
use mir.Val.{SFits}
use mir.Facts.{to_z-of_z}
use lib.Dec.{T, leb, leb→le}
use lib.IntN.{ℤ}
use lib.ListN.{length, length-append}
use Rattle.catalogue.specs.Text.{number, spaced, line, line_end, space}
use Rattle.text.specs.Puts.{put_at}
use Rattle.text.proofs.Decimals.{length_number}
use Rattle.text.proofs.Runs.{put_then, end_then}
use Rattle.text.proofs.Signs.{read}

abbrev pub followed : ℤ → ℕ → List ℕ
followed n b = number n ++ (b ∷ [])

pub line_one : (n : ℤ) → line (n ∷ []) ≡ followed n line_end
unfolding spaced
line_one n = refl

pub line_more : (n m : ℤ) (ns : List ℤ) → line (n ∷ (m ∷ ns)) ≡ followed n space ++ line (m ∷ ns)
unfolding spaced
line_more n m ns = simp append_assoc

-- a number of at most eleven places, as all are that the code has
abbrev Short : ℤ → Type 0
Short n = length (number n) ≤ 11

abbrev pub AllShort : List ℤ → Type 0
AllShort [] = Unit {0}
AllShort (n ∷ ns) = Short n × AllShort ns

length_followed : (n : ℤ) (b : ℕ) → Short n → length (followed n b) ≤ 12
length_followed n b s = omega (arith, length-append (number n) (b ∷ []))

pub length_short : (n : ℤ) (ns : List ℤ) → AllShort (n ∷ ns) → length (line (n ∷ ns)) ≤ 12 * length (n ∷ ns)
length_short n [] s = rw line_one (length_followed n line_end s.0)
length_short n (m ∷ ns) s =
    omega (arith, ap length (line_more n m ns), length-append (followed n space) (line (m ∷ ns)), length_followed n space s.0, length_short m ns s.1)

-- a number, and then one byte
module _ (n : ℤ) (s : Short n) (at mid : ℕ) (next : mid ≡ at + length (number n)) where
  pub follow_room : (l m : List ℕ) → length m ≡ length l → at + 12 ≤ length l → mid < length m
  follow_room l m kept room = omega arith

  pub follow_put : (l m k : List ℕ) (b : ℕ) → m ≡ put_at l at (number n) → k ≡ put_at m mid (b ∷ []) → at + 12 ≤ length l → k ≡ put_at l at (followed n b)
  follow_put l m k b first second room = put_then at mid (number n) (b ∷ []) next l m k first second (omega (arith, length_followed n b s))

  pub follow_end : (end b : ℕ) → end ≡ mid + 1 → end ≡ at + length (followed n b)
  follow_end end b last = end_then at mid (number n) (b ∷ []) next end last

-- the last number of a line
pub last_put : (n : ℤ) (l k : List ℕ) (at : ℕ) → k ≡ put_at l at (followed n line_end) → k ≡ put_at l at (line (n ∷ []))
last_put n l k at e = e ∙ ap (put_at l at) (sym (line_one n))

pub last_end : (n : ℤ) (at end : ℕ) → end ≡ at + length (followed n line_end) → end ≡ at + length (line (n ∷ []))
last_end n at end e = e ∙ ap (λ bytes. at + length bytes) (sym (line_one n))

-- a number that is not the last one of a line, and then the line of the others
module _ (n : ℤ) (at mid : ℕ) (next : mid ≡ at + length (followed n space)) where
  pub rest_room : Short n → (l m : List ℕ) (most left : ℕ) → length m ≡ length l → at + most ≤ length l → T (leb (12 + left) most) → mid + left ≤ length m
  rest_room s l m most left kept room t = omega (arith, length_followed n space s, leb→le (12 + left) most t)

  module _ (m : ℤ) (ns : List ℤ) where
    pub rest_put : AllShort (n ∷ (m ∷ ns)) → (l k k' : List ℕ) (most : ℕ) → k ≡ put_at l at (followed n space) → k' ≡ put_at k mid (line (m ∷ ns))
        → at + most ≤ length l → T (leb (12 * length (n ∷ (m ∷ ns))) most) → k' ≡ put_at l at (line (n ∷ (m ∷ ns)))
    rest_put s l k k' most first second room t =
        let whole : at + length (followed n space ++ line (m ∷ ns)) ≤ length l =
        omega (arith, ap length (line_more n m ns), length_short n (m ∷ ns) s, leb→le (12 * length (n ∷ (m ∷ ns))) most t) in
        put_then at mid (followed n space) (line (m ∷ ns)) next l k k' first second whole ∙ ap (put_at l at) (sym (line_more n m ns))

    pub rest_ends : (end : ℕ) → end ≡ mid + length (line (m ∷ ns)) → end ≡ at + length (line (n ∷ (m ∷ ns)))
    rest_ends end last =
        end_then at mid (followed n space) (line (m ∷ ns)) next end last ∙ ap (λ bytes. at + length bytes) (sym (line_more n m ns))

-- ---- numbers with a sign, as the code passes them on

abbrev pub Held : List ℤ → Type 0
Held [] = Unit {0}
Held (n ∷ ns) = SFits w32 n × Held ns

reads_are : (ns : List ℤ) → Held ns → map read ns ≡ ns
reads_are [] h = refl
reads_are (n ∷ ns) h = rw (to_z-of_z h.0, reads_are ns h.1)

held_short : (ns : List ℤ) → Held ns → AllShort ns
held_short [] h = tt
held_short (n ∷ ns) h = (length_number n h.0, held_short ns h.1)

pub length_line : (n : ℤ) (ns : List ℤ) → Held (n ∷ ns) → length (line (n ∷ ns)) ≤ 12 * length (n ∷ ns)
length_line n ns h = length_short n ns (held_short (n ∷ ns) h)

module _ (n : ℤ) (f : SFits w32 n) (at mid : ℕ) (next : mid ≡ at + length (number (read n))) where
  same : number (read n) ≡ number n
  same = ap number (to_z-of_z f)

  pub byte_room : (l m : List ℕ) → length m ≡ length l → at + 12 ≤ length l → mid < length m
  byte_room = follow_room n (length_number n f) at mid (rw same at next)

  pub byte_put : (l m k : List ℕ) (b : ℕ) → m ≡ put_at l at (number (read n)) → k ≡ put_at m mid (b ∷ []) → at + 12 ≤ length l → k ≡ put_at l at (followed n b)
  byte_put l m k b first = follow_put n (length_number n f) at mid (rw same at next) l m k b (rw same at first)

  pub byte_end : (end b : ℕ) → end ≡ mid + 1 → end ≡ at + length (followed n b)
  byte_end = follow_end n (length_number n f) at mid (rw same at next)

module _ (n : ℤ) (f : SFits w32 n) where
  pub one_put : (l k : List ℕ) (at : ℕ) → k ≡ put_at l at (followed (read n) line_end) → k ≡ put_at l at (line (n ∷ []))
  one_put l k at e = last_put n l k at (rw (to_z-of_z f) at e)

  pub one_end : (at end : ℕ) → end ≡ at + length (followed (read n) line_end) → end ≡ at + length (line (n ∷ []))
  one_end at end e = last_end n at end (rw (to_z-of_z f) at e)

module _ (n : ℤ) (at mid : ℕ) (next : mid ≡ at + length (followed (read n) space)) where
  pub line_room : SFits w32 n → (l m : List ℕ) (most left : ℕ) → length m ≡ length l → at + most ≤ length l → T (leb (12 + left) most) → mid + left ≤ length m
  line_room f = rest_room n at mid (rw (to_z-of_z f) at next) (length_number n f)

  module _ (m : ℤ) (ns : List ℤ) (h : Held (n ∷ (m ∷ ns))) where
    lead : followed (read n) space ≡ followed n space
    lead = rw (to_z-of_z h.0)

    others : line (map read (m ∷ ns)) ≡ line (m ∷ ns)
    others = ap line (reads_are (m ∷ ns) h.1)

    pub line_put : (l k k' : List ℕ) (most : ℕ) → k ≡ put_at l at (followed (read n) space) → k' ≡ put_at k mid (line (map read (m ∷ ns)))
        → at + most ≤ length l → T (leb (12 * length (n ∷ (m ∷ ns))) most) → k' ≡ put_at l at (line (n ∷ (m ∷ ns)))
    line_put l k k' most first second =
        rest_put n at mid (rw lead at next) m ns (held_short (n ∷ (m ∷ ns)) h) l k k' most (rw lead at first) (rw others at second)

    pub line_ends : (end : ℕ) → end ≡ mid + length (line (map read (m ∷ ns))) → end ≡ at + length (line (n ∷ (m ∷ ns)))
    line_ends end last = rest_ends n at mid (rw lead at next) m ns end (rw others at last)

pub ruleset line_cases = (tt, byte_room, byte_put, byte_end, one_put, one_end, line_room, line_put, line_ends)
