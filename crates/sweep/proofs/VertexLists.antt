-- The vertices that a walk makes stand in the second catalogue under the numbers 2, 3, .. in the walk's order.
use Prim.Native.Nat.{ℕ, zero, suc, ◌+◌, ◌<◌, ◌≤◌}
use mathlib.Core.Bool.{true, false}
use mathlib.Core.List.{List, [], ◌∷◌, ◌++◌, map, append_assoc, append-nil}
use mathlib.Core.Logic.{inl, inr}
use mathlib.Core.Path.{◌≡◌, refl, sym, ap, ◌∙◌}
use native.Mathlib.Omega.{arith}
use borrow.Author.Tests.{lt-ltb, le-ltb, le-leb, lt-leb, ne_eqb}
use lib.IntN.{ℤ, pos}
use lib.ListN.{length, get_or, length-append}
use lib.Dec.{eqb}
use Rattle.catalogue.specs.Tests.{pick, upd}
use Rattle.catalogue.specs.Numbers.{head, tail, edge_tail, least, plain, link}
use Rattle.catalogue.specs.Catalogue.{fresh}
use Rattle.catalogue.specs.Writes.{commit}
use Rattle.catalogue.specs.Lent.{lay}
use Rattle.catalogue.specs.Sweep.{first_of, next_swept, vlink_of, elink_of, held}
use Rattle.laws.proofs.Cases.{same?, lt_or, upd_at, upd_other}
use Rattle.sweep.specs.Built.{last_vertex, vertex_write, with_vertices}
use Rattle.memory.proofs.Agrees.{Agree, lay_agree, committed_lay}
use Rattle.sweep.proofs.Ends.{get_or_end}

-- the links of n vertices, by number
module _ (n i : ℕ) where
  linked_on : suc i < 2 + n → next_swept n i ≡ suc i
  unfolding next_swept
  linked_on h = ap (λ t. pick t (suc i) tail) (lt-ltb (suc i) (2 + n) h)

  linked_last : 2 + n ≤ suc i → next_swept n i ≡ tail
  unfolding next_swept
  linked_last h = ap (λ t. pick t (suc i) tail) (le-ltb (suc i) (2 + n) h)

  vlink_in : 2 ≤ i → i < 2 + n → vlink_of n i ≡ link (next_swept n i) plain
  vlink_in low high = rw (ne_eqb i 0 (omega arith), le-leb 2 i low, lt-ltb i (2 + n) high) refl

  vlink_out : 2 + n ≤ i → vlink_of n i ≡ 0
  vlink_out h = rw (ne_eqb i 0 (omega arith), le-leb 2 i (omega arith), le-ltb i (2 + n) h) refl

-- the last of them, or the head where there is none
data Last (n : ℕ) : Type 0 where
  none : n ≡ 0 → last_vertex n ≡ 0 → Last n
  some : 1 ≤ n → last_vertex n ≡ 1 + n → Last n

last_is : (n : ℕ) → Last n
unfolding last_vertex
last_is zero = none refl refl
last_is (suc n) = some (omega arith) (ap (λ t. pick t head (1 + suc n)) (ne_eqb (suc n) 0 (omega arith)))

-- one more vertex
module _ (n m : ℕ) (more : m ≡ suc n) where
  abbrev new : ℕ → ℕ
  new = upd (upd (vlink_of n) (2 + n) (link tail plain)) (last_vertex n) (link (2 + n) plain)

  new_at : (i : ℕ) → i ≡ last_vertex n → new i ≡ link (2 + n) plain
  new_at i e = upd_at (upd (vlink_of n) (2 + n) (link tail plain)) (last_vertex n) (link (2 + n) plain) i e

  new_off : (i : ℕ) → (i ≡ last_vertex n → ⊥) → new i ≡ upd (vlink_of n) (2 + n) (link tail plain) i
  new_off i e = upd_other (upd (vlink_of n) (2 + n) (link tail plain)) (last_vertex n) (link (2 + n) plain) i e

  new_end : (i : ℕ) → (i ≡ last_vertex n → ⊥) → i ≡ 2 + n → new i ≡ link tail plain
  new_end i e q = new_off i e ∙ upd_at (vlink_of n) (2 + n) (link tail plain) i q

  new_old : (i : ℕ) → (i ≡ last_vertex n → ⊥) → (i ≡ 2 + n → ⊥) → new i ≡ vlink_of n i
  new_old i e q = new_off i e ∙ upd_other (vlink_of n) (2 + n) (link tail plain) i q

  new_link : (i : ℕ) → new i ≡ vlink_of m i
  new_link zero =
      elim (last_is n) [
        | none z e ↦
            new_at 0 (sym e) ∙ ap (λ k. link k plain) (let two : 2 + n ≡ 2 = omega arith in two) ∙ sym (ap (λ k. link k plain) (linked_on m 1 (omega arith)))
        | some h e ↦
            new_old 0 (omega arith) (omega arith) ∙ ap (λ k. link k plain) (linked_on n 1 (omega arith))
            ∙ sym (ap (λ k. link k plain) (linked_on m 1 (omega arith)))
      ]
  new_link (suc zero) = new_old 1 (elim (last_is n) [ none z e ↦ omega arith | some h e ↦ omega arith ]) (omega arith)
  new_link (suc (suc j)) = at (suc (suc j)) (omega arith)
    where
      low : last_vertex n ≤ 1 + n
      low = elim (last_is n) [ none z e ↦ omega arith | some h e ↦ omega arith ]

      far : (i : ℕ) → 1 + n < i → i ≡ last_vertex n → ⊥
      far i h = omega (arith, low)

      at : (i : ℕ) → 2 ≤ i → new i ≡ vlink_of m i
      at i h =
          elim (lt_or i (1 + n)) [
            | inl b ↦ new_old i (elim (last_is n) [ none z e ↦ omega arith | some g e ↦ omega arith ]) (omega arith)
                ∙ vlink_in n i h (omega arith) ∙ ap (λ k. link k plain) (linked_on n i (omega arith) ∙ sym (linked_on m i (omega arith)))
                ∙ sym (vlink_in m i h (omega arith))
            | inr b ↦
                elim (same? i (1 + n)) [
                  | inl q ↦ new_at i (elim (last_is n) [ none z e ↦ absurd (omega arith) | some g e ↦ q ∙ sym e ])
                      ∙ ap (λ k. link k plain) (let two : 2 + n ≡ suc i = omega arith in two ∙ sym (linked_on m i (omega arith)))
                      ∙ sym (vlink_in m i h (omega arith))
                  | inr q ↦
                      elim (same? i (2 + n)) [
                        | inl z ↦ new_end i (far i (omega arith)) z ∙ ap (λ k. link k plain) (sym (linked_last m i (omega arith))) ∙ sym (vlink_in m i h (omega arith))
                        | inr z ↦ new_old i (far i (omega arith)) z ∙ vlink_out n i (omega arith) ∙ sym (vlink_out m i (omega arith))
                      ]
                ]
          ]

-- no vertex has edges yet
no_first : (n i : ℕ) → upd (λ j. link (first_of j [] 1) plain) n (link edge_tail plain) i ≡ link (first_of i [] 1) plain
unfolding first_of upd
no_first n i = elim (eqb i n) as (λ t. pick t (link edge_tail plain) (link edge_tail plain) ≡ link edge_tail plain) [ true ↦ refl | false ↦ refl ]

vertex_agrees : (ks : List ℤ) (k : ℤ) → Agree (commit (held ks []) (vertex_write (length ks) k)) (held (ks ++ (k ∷ [])) [])
unfolding commit held
vertex_agrees ks k =
    let n = length ks in
    let long : length (ks ++ (k ∷ [])) ≡ suc n = omega (arith, length-append ks (k ∷ [])) in
    record {
      vertices = omega (arith, long);
      edges = refl;
      vkeys = λ i h. sym (get_or_end (least ∷ (pos 0 ∷ ks)) k (pos 0) (2 + n) i (omega arith));
      vlinks = λ i h. new_link n (length (ks ++ (k ∷ []))) long i;
      firsts = λ i h. no_first (2 + n) i;
      ekeys = λ i h. refl;
      targets = λ i h. refl;
      elinks = λ i h. refl;
    }

-- the fresh catalogue is that of no vertices
pub fresh_agrees : Agree fresh (held [] [])
unfolding first_of next_swept held
fresh_agrees = record {
  vertices = refl;
  edges = refl;
  vkeys = λ i h. keyed i;
  vlinks = λ i h. linked i;
  firsts = λ i h. refl;
  ekeys = λ i h. empty (pos 0) i;
  targets = λ i h. empty 0 i;
  elinks = λ i h. unlinked i;
}
  where
    keyed : (i : ℕ) → upd (λ n. pos 0) head least i ≡ get_or (least ∷ (pos 0 ∷ [])) i (pos 0)
    keyed zero = upd_at (λ n. pos 0) head least 0 refl
    keyed (suc zero) = upd_other (λ n. pos 0) head least 1 (omega arith)
    keyed (suc (suc i)) = upd_other (λ n. pos 0) head least (suc (suc i)) (omega arith)

    linked : (i : ℕ) → upd (λ n. 0) head (link tail plain) i ≡ vlink_of 0 i
    linked zero = upd_at (λ n. 0) head (link tail plain) 0 refl
    linked (suc zero) = upd_other (λ n. 0) head (link tail plain) 1 (omega arith)
    linked (suc (suc i)) = upd_other (λ n. 0) head (link tail plain) (suc (suc i)) (omega arith) ∙ sym (vlink_out 0 (suc (suc i)) (omega arith))

    empty : {A : Type 0} (v : A) (i : ℕ) → v ≡ get_or (v ∷ []) i v
    empty v zero = refl
    empty v (suc i) = refl

    unlinked : (i : ℕ) → 0 ≡ elink_of [] i
    unlinked zero = refl
    unlinked (suc i) = rw (le-leb 1 (suc i) (omega arith), lt-leb (suc i) 0 (omega arith)) refl

pub vertices_laid : (keys : ℕ → ℤ) (l : List ℕ) (ks : List ℤ) (n : ℕ) → n ≡ length ks
    → with_vertices keys l n (lay (held ks [])) ≡ lay (held (ks ++ map keys l) [])
unfolding with_vertices
vertices_laid keys [] ks n e = ap (λ k. lay (held k [])) (sym (append-nil ks))
vertices_laid keys (x ∷ l) ks n e =
    ap (with_vertices keys l (n + 1))
    (committed_lay (held ks []) (vertex_write n (keys x))
    ∙ ap (λ k. lay (commit (held ks []) (vertex_write k (keys x)))) e
    ∙ lay_agree (vertex_agrees ks (keys x)))
    ∙ vertices_laid keys l (ks ++ (keys x ∷ [])) (n + 1) (omega (arith, length-append ks (keys x ∷ [])))
    ∙ ap (λ k. lay (held k [])) (append_assoc ks (keys x ∷ []) (map keys l))
