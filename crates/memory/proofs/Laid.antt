-- Each place of laid memory holds the field of the catalogue at its number.
-- A list that agrees with all fields is that memory.
use Prim.Native.Nat.{ℕ, zero, suc, ◌+◌, ◌-◌, ◌<◌, ◌≤◌}
use mathlib.Core.Bool.{Bool, true, false}
use mathlib.Core.List.{List}
use mathlib.Core.Path.{◌≡◌, refl, sym, subst, ◌∙◌}
use native.Mathlib.Omega.{arith}
use lib.IntN.{ℤ, pos}
use lib.ListN.{length, get_or, length-append}
use lib.Seq.{ext_get_or}
use lib.Dec.{ltb}
use native.Mathlib.Nat.{add-sub_of_le}
use borrow.Author.Tests.{ltb-true, ltb-false}
use Rattle.catalogue.specs.Catalogue.{Catalogue}
use Rattle.catalogue.specs.Lent.{Memory, keys_size, words_size, vertex_count, edge_count, vkeys, ekeys, vlinks, firsts, targets, elinks, view, lay, sized, catalogue_in}
use Rattle.memory.specs.Memories.{Hold}
use Rattle.memory.proofs.Sizes.{sized_is}
use Rattle.laws.proofs.Gathers.{length_table}
use Rattle.memory.proofs.Tables.{get_or_table, get_or_front, get_or_behind}

-- where the tables of the words begin, after the two counts
pub vlink_place : (n : ℕ) → 2 + n ≡ suc (suc n)
vlink_place n = omega arith

pub first_place : (n : ℕ) → 258 + n ≡ suc (suc (256 + n))
first_place n = omega arith

pub target_place : (n : ℕ) → 514 + n ≡ suc (suc (256 + (256 + n)))
target_place n = omega arith

pub elink_place : (n : ℕ) → 2562 + n ≡ suc (suc (256 + (256 + (2048 + n))))
elink_place n = omega arith

module _ (C : Catalogue) where
  pub length_keys : length (lay C).keys ≡ keys_size
  unfolding lay
  length_keys = simp (length-append, length_table)

  pub length_words : length (lay C).words ≡ words_size
  unfolding lay
  length_words = simp (length-append, length_table)

  module _ (n : ℕ) where
    pub laid_vkey : n < 256 → vkeys (lay C).keys n ≡ C.vertices.key n
    unfolding lay
    laid_vkey h = simp get_or_front

    pub laid_ekey : n < 2048 → ekeys (lay C).keys n ≡ C.edges.key n
    unfolding lay
    laid_ekey h = simp (get_or_behind, get_or_table)

    pub laid_vlink : n < 256 → vlinks (lay C).words n ≡ C.vertices.link n
    unfolding lay
    laid_vlink h = simp (vlink_place, get_or_front)

    pub laid_first : n < 256 → firsts (lay C).words n ≡ C.vertices.first n
    unfolding lay
    laid_first h = simp (first_place, get_or_behind, get_or_front)

    pub laid_target : n < 2048 → targets (lay C).words n ≡ C.edges.target n
    unfolding lay
    laid_target h = simp (target_place, get_or_behind, get_or_front)

    pub laid_elink : n < 2048 → elinks (lay C).words n ≡ C.edges.link n
    unfolding lay
    laid_elink h = simp (elink_place, get_or_behind, get_or_table)

-- What holds below a place and at each of some numbers from there on holds below their end.
below_both : (P : ℕ → Type 0) (o r : ℕ) → ((i : ℕ) → i < o → P i) → ((n : ℕ) → n < r → P (o + n)) → (i : ℕ) → i < o + r → P i
below_both P o r low high i h = by (ltb i o) refl
  where
    by : (t : Bool) → ltb i o ≡ t → P i
    by true e = low i (ltb-true i o e)
    by false e = let b : o ≤ i = ltb-false i o e in subst P (add-sub_of_le b) (high (i - o) (omega arith))

below_two : (P : ℕ → Type 0) → P 0 → P 1 → (i : ℕ) → i < 2 → P i
below_two P a b zero h = a
below_two P a b (suc zero) h = b
below_two P a b (suc (suc i)) h = absurd (omega arith)

module _ (C : Catalogue) where
  pub laid_keys : (keys : List ℤ) → length keys ≡ keys_size
      → ((n : ℕ) → n < 256 → vkeys keys n ≡ C.vertices.key n)
      → ((n : ℕ) → n < 2048 → ekeys keys n ≡ C.edges.key n)
      → keys ≡ (lay C).keys
  laid_keys keys size vkey ekey =
      ext_get_or (pos 0) keys (lay C).keys (size ∙ sym (length_keys C)) (λ i h. agree i (rw size at h))
    where
      agree : (i : ℕ) → i < 256 + 2048 → get_or keys i (pos 0) ≡ get_or (lay C).keys i (pos 0)
      agree =
          below_both (λ i. get_or keys i (pos 0) ≡ get_or (lay C).keys i (pos 0)) 256 2048
          (λ n h. vkey n h ∙ sym (laid_vkey C n h))
          (λ n h. ekey n h ∙ sym (laid_ekey C n h))

  pub laid_words : (words : List ℕ) → length words ≡ words_size
      → vertex_count words ≡ C.counts.vertices → edge_count words ≡ C.counts.edges
      → ((n : ℕ) → n < 256 → vlinks words n ≡ C.vertices.link n)
      → ((n : ℕ) → n < 256 → firsts words n ≡ C.vertices.first n)
      → ((n : ℕ) → n < 2048 → targets words n ≡ C.edges.target n)
      → ((n : ℕ) → n < 2048 → elinks words n ≡ C.edges.link n)
      → words ≡ (lay C).words
  unfolding lay
  laid_words words size vertices edges vlink first target elink =
      ext_get_or 0 words (lay C).words (size ∙ sym (length_words C)) (λ i h. agree i (rw size at h))
    where
      P : ℕ → Type 0
      P i = get_or words i 0 ≡ get_or (lay C).words i 0

      agree : (i : ℕ) → i < 2562 + 2048 → P i
      agree =
          below_both P 2562 2048
          (below_both P 514 2048
          (below_both P 258 256
          (below_both P 2 256 (below_two P vertices edges) (λ n h. vlink n h ∙ sym (laid_vlink C n h)))
          (λ n h. first n h ∙ sym (laid_first C n h)))
          (λ n h. target n h ∙ sym (laid_target C n h)))
          (λ n h. elink n h ∙ sym (laid_elink C n h))

-- Memory of the stated sizes is that of the catalogue which it holds.
pub view_held : (keys : List ℤ) (words : List ℕ) → length keys ≡ keys_size → length words ≡ words_size → Hold keys words (catalogue_in keys words)
view_held keys words hk hw =
    let C = catalogue_in keys words in (
      laid_keys C keys hk (λ n h. refl) (λ n h. refl),
      laid_words C words hw refl refl (λ n h. refl) (λ n h. refl) (λ n h. refl) (λ n h. refl),
    )

pub lay_view : (m : Memory) → sized m ≡ true → lay (view m) ≡ m
lay_view m e =
    let s = sized_is m e in
    let held = view_held m.keys m.words s.keyed s.worded in
    λ i. record { keys = sym held.0 i; words = sym held.1 i }
