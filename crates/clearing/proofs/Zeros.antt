-- Memory of zeros is that of a catalogue of zeros, which the head's key and the head's link make the fresh one.
use Prim.Native.Nat.{ℕ, ◌+◌, ◌<◌}
use mathlib.Core.List.{List}
use mathlib.Core.Path.{◌≡◌}
use native.Mathlib.Omega.{arith}
use lib.IntN.{ℤ, pos}
use lib.ListN.{length, get_or, set, replicate, length-replicate, get_or-replicate}
use lib.Dec.{lit<}
use Rattle.catalogue.specs.Numbers.{link, least, head, tail, plain}
use Rattle.catalogue.specs.Catalogue.{Catalogue, fresh}
use Rattle.catalogue.specs.Lent.{lay, keys_size, words_size}
use Rattle.memory.specs.Memories.{Hold}
use Rattle.memory.proofs.Laid.{laid_keys, laid_words}
use Rattle.memory.proofs.Tables.{set_front}

zeros : Catalogue
zeros = record {
  counts = record { vertices = 0; edges = 0 };
  vertices = record { key = λ n. pos 0; link = λ n. 0; first = λ n. 0 };
  edges = record { key = λ n. pos 0; target = λ n. 0; link = λ n. 0 };
}

zero_at : {A : Type 0} (v : A) (size : ℕ) (l : List A) → l ≡ replicate size v → (n : ℕ) → n < size → get_or l n v ≡ v
zero_at v size l e n h = rw e (get_or-replicate size n v v h)

zero_keys : (size : ℕ) (keys : List ℤ) → size ≡ keys_size → keys ≡ replicate size (pos 0) → keys ≡ (lay zeros).keys
unfolding zeros
zero_keys size keys s e =
    let at : (n : ℕ) → n < size → get_or keys n (pos 0) ≡ pos 0 = zero_at (pos 0) size keys e in
    laid_keys zeros keys (rw (e, length-replicate) s) (λ n h. at n (omega arith)) (λ n h. at (256 + n) (omega arith))

zero_words : (size : ℕ) (words : List ℕ) → size ≡ words_size → words ≡ replicate size 0 → words ≡ (lay zeros).words
unfolding zeros
zero_words size words s e =
    let at : (n : ℕ) → n < size → get_or words n 0 ≡ 0 = zero_at 0 size words e in
    laid_words zeros words (rw (e, length-replicate) s)
    (at 0 (omega arith)) (at 1 (omega arith))
    (λ n h. at (2 + n) (omega arith)) (λ n h. at (258 + n) (omega arith))
    (λ n h. at (514 + n) (omega arith)) (λ n h. at (2562 + n) (omega arith))

pub fresh_laid : (keys k₁ k₂ : List ℤ) (words w₁ w₂ : List ℕ) (key : ℤ) → length keys ≡ keys_size → length words ≡ words_size
    → k₁ ≡ replicate (length keys) (pos 0) → k₂ ≡ set k₁ head key → key ≡ least
    → w₁ ≡ replicate (length words) 0 → w₂ ≡ set w₁ (2 + head) (link tail plain)
    → Hold k₂ w₂ fresh
unfolding zeros lay
fresh_laid keys k₁ k₂ words w₁ w₂ key hk hw ek₁ ek₂ e ew₁ ew₂ =
    let h : head < 256 = lit< tt in
    (rw (ek₂, zero_keys (length keys) k₁ hk ek₁, e) (simp set_front), rw (ew₂, zero_words (length words) w₁ hw ew₁) (simp set_front))
