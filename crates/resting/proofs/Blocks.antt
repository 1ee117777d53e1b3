-- The edges of one source stand together in a list of swept edges:
-- from the first of them, each leads to the next, and the last to the tail.
use Prim.Native.Nat.{ℕ, zero, suc, ◌+◌, ◌-◌, ◌<◌, ◌≤◌}
use mathlib.Core.Bool.{Bool, true, false}
use mathlib.Core.List.{List, [], ◌∷◌, ◌++◌}
use mathlib.Core.Logic.{inl, inr}
use mathlib.Core.Path.{◌≡◌, refl, sym, ap, ◌∙◌}
use native.Mathlib.Omega.{arith}
use lib.IntN.{pos}
use lib.ListN.{length, get_or, get_or-append, get_or-map}
use lib.Seq.{get_or-append-add}
use lib.Dec.{eqb, ltb}
use borrow.Author.Tests.{eq-eqb, ne_eqb, lt-ltb, le-ltb, ltb-true, ltb-false}
use Rattle.catalogue.specs.Tests.{pick}
use Rattle.catalogue.specs.Numbers.{edge_tail}
use Rattle.catalogue.specs.Sweep.{SweptEdge, first_of, next_swept_edge, source_at}
use Rattle.laws.proofs.Cases.{lt_or}
use Rattle.laws.proofs.Members.{All, chosen, all_at}

-- what a list of swept edges has past its end
abbrev pub blank : SweptEdge
blank = record { source = 0; target = 0; key = pos 0 }

module _ (x : ℕ) where
  abbrev pub From : List SweptEdge → Type 0
  From = All (λ d. d.source ≡ x)

  abbrev pub Elsewhere : List SweptEdge → Type 0
  Elsewhere = All (λ d. d.source ≡ x → ⊥)

  pub sees : (d : SweptEdge) (es : List SweptEdge) (n : ℕ) → first_of x (d ∷ es) n ≡ pick (eqb x d.source) n (first_of x es (suc n))
  unfolding first_of
  sees d es n = chosen (eqb x d.source) n (first_of x es (suc n))

  pub passes : (pre es : List SweptEdge) (n : ℕ) → Elsewhere pre → first_of x (pre ++ es) n ≡ first_of x es (n + length pre)
  passes [] es n h = ap (first_of x es) (omega arith)
  passes (d ∷ pre) es n h =
      sees d (pre ++ es) n
      ∙ rw (ne_eqb x d.source (λ e. h.0 (sym e))) (passes pre es (suc n) h.1 ∙ ap (first_of x es) (omega arith))

  none_there : (es : List SweptEdge) (n : ℕ) → Elsewhere es → first_of x es n ≡ edge_tail
  unfolding first_of
  none_there [] n h = refl
  none_there (d ∷ es) n h = sees d es n ∙ rw (ne_eqb x d.source (λ e. h.0 (sym e))) (none_there es (suc n) h.1)

-- such a list, where the edges of x have the numbers from `suc (length pre)` on
pub record Together (x : ℕ) (es pre mid post : List SweptEdge) : Type 0 where
  pub parts : es ≡ pre ++ (mid ++ post)
  pub not_before : Elsewhere x pre
  pub all_there : From x mid
  pub not_behind : Elsewhere x post

module _ {x : ℕ} {es pre mid post : List SweptEdge} (t : Together x es pre mid post) where
  abbrev from : ℕ
  from = suc (length pre)

  abbrev last : ℕ
  last = from + length mid

  pub first_there : first_of x es 1 ≡ pick (ltb from last) from edge_tail
  first_there = ap (λ l. first_of x l 1) t.parts ∙ passes x pre (mid ++ post) 1 t.not_before ∙ by mid post t.all_there t.not_behind
    where
      by : (mid post : List SweptEdge) → From x mid → Elsewhere x post
          → first_of x (mid ++ post) (1 + length pre) ≡ pick (ltb from (from + length mid)) from edge_tail
      by [] post g k = none_there x post (1 + length pre) k ∙ rw (le-ltb from (from + 0) (omega arith)) refl
      by (d ∷ mid) post g k =
          sees x d (mid ++ post) (1 + length pre)
          ∙ rw (eq-eqb x d.source (sym g.0), lt-ltb from (from + suc (length mid)) (omega arith)) (omega arith)

  -- the edge at each number of the row, and those after
  pub stands : (j : ℕ) → j < length mid → get_or es (length pre + j) blank ≡ get_or mid j blank
  stands j b = ap (λ l. get_or l (length pre + j) blank) t.parts ∙ get_or-append-add pre (mid ++ post) j blank ∙ get_or-append mid post blank j b

  behind : (j : ℕ) → get_or es (length pre + (length mid + j)) blank ≡ get_or post j blank
  behind j = ap (λ l. get_or l (length pre + (length mid + j)) blank) t.parts ∙ get_or-append-add pre (mid ++ post) (length mid + j) blank ∙ get_or-append-add mid post j blank

  source_is : (j : ℕ) → source_at es (suc j) ≡ (get_or es j blank).source
  source_is j = get_or-map (λ d. d.source) es j blank

  pub source_there : (e : ℕ) → from ≤ e → e < last → source_at es e ≡ x
  source_there e a b =
      let j : ℕ = e - from in
      let at : e ≡ suc (length pre + j) = omega arith in
      let within : j < length mid = omega arith in
      ap (source_at es) at ∙ source_is (length pre + j) ∙ ap (λ d. d.source) (stands j within) ∙ all_at (λ d. d.source ≡ x) blank mid j t.all_there within

  module _ (low_source : x ≡ 0 → ⊥) where
    source_behind : (e : ℕ) → last ≤ e → source_at es e ≡ x → ⊥
    source_behind e a q =
        let j : ℕ = e - last in
        let at : suc (length pre + (length mid + j)) ≡ e = omega arith in
        starts post j t.not_behind (sym (ap (λ d. d.source) (behind j)) ∙ sym (source_is (length pre + (length mid + j))) ∙ ap (source_at es) at ∙ q)
      where
        starts : (l : List SweptEdge) (j : ℕ) → Elsewhere x l → (get_or l j blank).source ≡ x → ⊥
        starts [] j h e = low_source (sym e)
        starts (d ∷ l) zero h e = h.0 e
        starts (d ∷ l) (suc j) h e = starts l j h.1 e

    -- no other number has the source
    pub only_there : (e : ℕ) → 1 ≤ e → source_at es e ≡ x → (from ≤ e) × (e < last)
    only_there zero a q = absurd (omega arith)
    only_there (suc j) a q =
        elim (lt_or j (length pre)) [
          | inl b ↦
              let at : get_or es j blank ≡ get_or pre j blank = ap (λ l. get_or l j blank) t.parts ∙ get_or-append pre (mid ++ post) blank j b in
              absurd (all_at (λ d. d.source ≡ x → ⊥) blank pre j t.not_before b (sym (ap (λ d. d.source) at) ∙ sym (source_is j) ∙ q))
          | inr b ↦ elim (lt_or (suc j) last) [ inl c ↦ omega arith | inr c ↦ absurd (source_behind (suc j) c q) ]
        ]

    pub next_there : (e : ℕ) → from ≤ e → e < last → next_swept_edge es e ≡ pick (ltb (suc e) last) (suc e) edge_tail
    unfolding next_swept_edge
    next_there e a b = ap (λ t. pick t (suc e) edge_tail) (ap (λ i. eqb i (source_at es (suc e))) (source_there e a b) ∙ by (ltb (suc e) last) refl)
      where
        by : (t : Bool) → ltb (suc e) last ≡ t → eqb x (source_at es (suc e)) ≡ ltb (suc e) last
        by true q = eq-eqb x (source_at es (suc e)) (sym (source_there (suc e) (omega arith) (ltb-true (suc e) last q))) ∙ sym q
        by false q = ne_eqb x (source_at es (suc e)) (λ p. source_behind (suc e) (ltb-false (suc e) last q) (sym p)) ∙ sym q
