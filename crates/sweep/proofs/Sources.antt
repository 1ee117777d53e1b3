-- The sources of the edges by number, and the links that they make.
-- An edge leads to the next one where that has the same source.
use Prim.Native.Nat.{ℕ, zero, suc, ◌+◌, ◌<◌, ◌≤◌}
use mathlib.Core.List.{List, [], ◌∷◌, ◌++◌, map, map-append}
use mathlib.Core.Logic.{inl, inr}
use mathlib.Core.Path.{◌≡◌, refl, sym, ap, ◌∙◌}
use native.Mathlib.Omega.{arith}
use borrow.Author.Tests.{le-leb, lt-leb, eq-eqb, ne_eqb}
use lib.ListN.{length, get_or, length-append, length-map, get_or-eq_default}
use lib.Dec.{eqb}
use Rattle.catalogue.specs.Tests.{pick, upd}
use Rattle.catalogue.specs.Numbers.{edge_tail, added, link}
use Rattle.catalogue.specs.Sweep.{SweptEdge, source_at, next_swept_edge, elink_of}
use Rattle.laws.proofs.Members.{All, all_at, all_map}
use Rattle.laws.proofs.Cases.{lt_or, upd_at, upd_other}
use Rattle.sweep.proofs.Ends.{get_or_end}

abbrev source_of : SweptEdge → ℕ
source_of d = d.source

-- every source is a vertex number below another
abbrev pub Below : ℕ → List SweptEdge → Type 0
Below b = All (λ d. (1 ≤ d.source) × (d.source < b))

-- what the sources are, by number
below_at : (b : ℕ) (es : List SweptEdge) (i : ℕ) → Below b es → 1 ≤ i → i ≤ length es → (1 ≤ source_at es i) × (source_at es i < b)
below_at b es zero l h k = absurd (omega arith)
below_at b es (suc i) l h k =
    all_at (λ n. (1 ≤ n) × (n < b)) 0 (map source_of es) i (all_map (λ n. (1 ≤ n) × (n < b)) source_of es l) (omega (arith, length-map es source_of))

past_end : (es : List SweptEdge) (i : ℕ) → length es < i → source_at es i ≡ 0
past_end es i h = get_or-eq_default (0 ∷ map source_of es) 0 {n = i} (let long : length (map source_of es) < i = omega (arith, length-map es source_of) in omega arith)

-- a field of the edges, where there is one more edge
pub more_at : {A : Type 0} (f : SweptEdge → A) (v : A) (es : List SweptEdge) (d : SweptEdge) (i : ℕ)
    → get_or (v ∷ map f (es ++ (d ∷ []))) i v ≡ upd (λ k. get_or (v ∷ map f es) k v) (1 + length es) (f d) i
more_at f v es d i =
    ap (λ l. get_or (v ∷ l) i v) (map-append f es (d ∷ []))
    ∙ get_or_end (v ∷ map f es) (f d) v (1 + length es) i (let long : length (map f es) ≡ length es = length-map es f in omega arith)

-- the links of the edges, by number
module _ (es : List SweptEdge) (i : ℕ) where
  goes_on : source_at es i ≡ source_at es (suc i) → next_swept_edge es i ≡ suc i
  unfolding next_swept_edge
  goes_on e = ap (λ t. pick t (suc i) edge_tail) (eq-eqb (source_at es i) (source_at es (suc i)) e)

  ends_here : (source_at es i ≡ source_at es (suc i) → ⊥) → next_swept_edge es i ≡ edge_tail
  unfolding next_swept_edge
  ends_here e = ap (λ t. pick t (suc i) edge_tail) (ne_eqb (source_at es i) (source_at es (suc i)) e)

  elink_in : 1 ≤ i → i ≤ length es → elink_of es i ≡ link (next_swept_edge es i) added
  elink_in low high = rw (le-leb 1 i low, le-leb i (length es) high) refl

  elink_out : length es < i → elink_of es i ≡ 0
  elink_out h = rw (le-leb 1 i (omega arith), lt-leb i (length es) h) refl

next_same : (es es' : List SweptEdge) (i : ℕ) → source_at es i ≡ source_at es' i → source_at es (suc i) ≡ source_at es' (suc i)
    → next_swept_edge es i ≡ next_swept_edge es' i
unfolding next_swept_edge
next_same es es' i e q = ap (λ k. pick (eqb k (source_at es (suc i))) (suc i) edge_tail) e ∙ ap (λ k. pick (eqb (source_at es' i) k) (suc i) edge_tail) q

-- one more edge
module _ (es : List SweptEdge) (d : SweptEdge) (some : 1 ≤ d.source) where
  abbrev more : List SweptEdge
  more = es ++ (d ∷ [])

  long : length more ≡ suc (length es)
  long = omega (arith, length-append es (d ∷ []))

  old_source : (i : ℕ) → i ≤ length es → source_at more i ≡ source_at es i
  old_source i h = more_at source_of 0 es d i ∙ upd_other (source_at es) (1 + length es) d.source i (omega arith)

  pub new_source : (i : ℕ) → i ≡ 1 + length es → source_at more i ≡ d.source
  new_source i h = more_at source_of 0 es d i ∙ upd_at (source_at es) (1 + length es) d.source i h

  -- before the last edge nothing changes, and the new one is the last of its list
  elink_old : (i : ℕ) → i < length es → elink_of more i ≡ elink_of es i
  elink_old zero h = refl
  elink_old (suc i) h =
      elink_in more (suc i) (omega arith) (omega (arith, long))
      ∙ ap (λ k. link k added) (next_same more es (suc i) (old_source (suc i) (omega arith)) (old_source (suc (suc i)) (omega arith)))
      ∙ sym (elink_in es (suc i) (omega arith) (omega arith))

  pub elink_new : (i : ℕ) → i ≡ 1 + length es → elink_of more i ≡ link edge_tail added
  elink_new i e =
      elink_in more i (omega arith) (omega (arith, long))
      ∙ ap (λ k. link k added) (ends_here more i (omega (arith, new_source i e, past_end more (suc i) (omega (arith, long)))))

  elink_beyond : (i : ℕ) → 1 + length es < i → elink_of more i ≡ elink_of es i
  elink_beyond i h = elink_out more i (omega (arith, long)) ∙ sym (elink_out es i (omega arith))

  -- the last edge before, of another list or of this one
  pub last_apart : (i : ℕ) → Below d.source es → 1 ≤ i → i ≡ length es → elink_of more i ≡ elink_of es i
  last_apart i b low e =
      let own = below_at d.source es i b low (omega arith) in
      elink_in more i low (omega (arith, long))
      ∙ ap (λ k. link k added)
      (ends_here more i (omega (arith, own.0, own.1, old_source i (omega arith), new_source (suc i) (omega arith)))
      ∙ sym (ends_here es i (omega (arith, own.0, past_end es (suc i) (omega arith)))))
      ∙ sym (elink_in es i low (omega arith))

  pub last_joined : (i : ℕ) → source_at es i ≡ d.source → 1 ≤ i → i ≡ length es → elink_of more i ≡ link (1 + length es) added
  last_joined i s low e =
      elink_in more i low (omega (arith, long))
      ∙ ap (λ k. link k added) (goes_on more i (old_source i (omega arith) ∙ s ∙ sym (new_source (suc i) (omega arith))) ∙ (let n : suc i ≡ 1 + length es = omega arith in n))

  pub elsewhere : (i : ℕ) → (i ≡ 1 + length es → ⊥) → (i ≡ length es → ⊥) → elink_of more i ≡ elink_of es i
  elsewhere i n m = elim (lt_or i (length es)) [ inl h ↦ elink_old i h | inr h ↦ elink_beyond i (omega arith) ]
