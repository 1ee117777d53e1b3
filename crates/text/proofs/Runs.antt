-- Runs of bytes that are put one after the other are one run, and none changes how long the output is.
use Prim.Native.Nat.{ℕ, ◌+◌, ◌≤◌}
use mathlib.Core.List.{List, ◌++◌, append_assoc}
use mathlib.Core.Path.{◌≡◌, sym, ap, ◌∙◌}
use native.Mathlib.Omega.{arith}
use native.Mathlib.Nat.{add_assoc}
use lib.ListN.{length, take, drop, length-append, length-take, length-drop}
use lib.Seq.{take_at, drop-append-add, drop-drop}
use Rattle.text.specs.Puts.{put_at}

pub length_put_at : (l : List ℕ) (at : ℕ) (bytes : List ℕ) → at + length bytes ≤ length l → length (put_at l at bytes) ≡ length l
length_put_at l at bytes h = simp (length-append, length-take, length-drop) (omega arith)

module _ (l : List ℕ) (at : ℕ) (a b : List ℕ) (fits : at + length (a ++ b) ≤ length l) where
  pub put_twice : put_at (put_at l at a) (at + length a) b ≡ put_at l at (a ++ b)
  put_twice =
      let front : List ℕ = take at l ++ a in
      let rest : List ℕ = drop (at + length a) l in
      let sum : length (a ++ b) ≡ length a + length b = length-append a b in
      let long : length front ≡ at + length a = simp (length-append, length-take) (omega arith) in
      let cut : front ++ rest ≡ put_at l at a = append_assoc (take at l) a rest in
      let kept : take (at + length a) (front ++ rest) ≡ front = take_at front rest (at + length a) long in
      let left : drop (at + length a + length b) (front ++ rest) ≡ drop (at + length a + length b) l =
      ap (λ n. drop (n + length b) (front ++ rest)) (sym long) ∙ drop-append-add front rest (length b) ∙ drop-drop (length b) (at + length a) l in
      let joined : take (at + length a) (front ++ rest) ++ (b ++ drop (at + length a + length b) (front ++ rest)) ≡ put_at l at (a ++ b) =
      rw (kept, left) (simp (append_assoc, sum, add_assoc)) in
      rw (← cut) joined

-- a call that puts a run, and a second one that goes on where the first one ended
module _ (at mid : ℕ) (a b : List ℕ) (next : mid ≡ at + length a) where
  pub put_then : (l m k : List ℕ) → m ≡ put_at l at a → k ≡ put_at m mid b → at + length (a ++ b) ≤ length l → k ≡ put_at l at (a ++ b)
  put_then l m k first second fits = second ∙ rw (first, next) (put_twice l at a b fits)

  pub end_then : (end : ℕ) → end ≡ mid + length b → end ≡ at + length (a ++ b)
  end_then end last = omega (arith, length-append a b)
