-- The edges that the walks make stand in the second catalogue under the numbers 1, 2, .. in the walks' order.
-- Each list is one run.
use Prim.Native.Nat.{ℕ, zero, suc, ◌+◌, ◌<◌, ◌≤◌}
use mathlib.Core.List.{List, [], ◌∷◌, ◌++◌, map, append_assoc, append-nil}
use mathlib.Core.Logic.{inl, inr}
use mathlib.Core.Path.{◌≡◌, refl, sym, ap, subst, ◌∙◌}
use native.Mathlib.Omega.{arith}
use lib.IntN.{ℤ, pos}
use lib.ListN.{length, length-append, length-map}
use Rattle.catalogue.specs.Tests.{upd}
use Rattle.catalogue.specs.Numbers.{edge_tail, plain, added, transit, link}
use Rattle.catalogue.specs.Writes.{commit}
use Rattle.catalogue.specs.Live.{gather}
use Rattle.catalogue.specs.Lent.{lay}
use Rattle.catalogue.specs.Sweep.{SweptEdge, first_of, source_at, elink_of, held}
use Rattle.catalogue.specs.declared.writes.Write.TheVariants.{EdgeLink, NewFirst, NewEdge}
use Rattle.laws.proofs.Members.{all_each, all_any, all_append, all_map}
use Rattle.laws.proofs.Cases.{same?, upd_at, upd_other}
use Rattle.resting.proofs.Rows.{Numbered}
use Rattle.sweep.specs.Built.{committed, edge_write, with_edge, with_edges, with_lists}
use Rattle.memory.proofs.Agrees.{Agree, lay_agree, committed_lay}
use Rattle.sweep.proofs.NodeLaws.{first_written, next_written}
use Rattle.sweep.proofs.Sources.{Below, more_at, new_source, elink_new, last_apart, last_joined, elsewhere}
use Rattle.sweep.proofs.FirstEdges.{first_fresh, first_other, first_had}

-- where a new edge stands: first of its list, or after the last edge that was made, which is of the same list
data Row (s : ℕ) (es : List SweptEdge) (p : ℕ) : Type 0 where
  first : p ≡ 0 → Below s es → Row s es p
  later : (before : List SweptEdge) (c : SweptEdge) → es ≡ before ++ (c ∷ []) → s ≡ c.source → p ≡ length es → Below (suc s) es → Row s es p

module _ (ks : List ℤ) (es : List SweptEdge) (d : SweptEdge) (some : 1 ≤ d.source) where
  abbrev new : ℕ
  new = 1 + length es

  abbrev more' : List SweptEdge
  more' = es ++ (d ∷ [])

  -- the new edge's own link is written last
  own_link : (f : ℕ → ℕ) → ((i : ℕ) → (i ≡ new → ⊥) → f i ≡ elink_of more' i) → (i : ℕ) → upd f new (link edge_tail added) i ≡ elink_of more' i
  own_link f rest i =
      elim (same? i new) [
        | inl q ↦ upd_at f new (link edge_tail added) i q ∙ sym (elink_new es d some i q)
        | inr q ↦ upd_other f new (link edge_tail added) i q ∙ rest i q
      ]

  first_agrees : Below d.source es
      → Agree (commit (commit (held ks es) (NewFirst new d.key d.target edge_tail d.source)) (EdgeLink new edge_tail added)) (held ks more')
  unfolding commit held
  first_agrees b = record {
    vertices = refl;
    edges = omega (arith, length-append es (d ∷ []));
    vkeys = λ i h. refl;
    vlinks = λ i h. refl;
    firsts = λ i h.
        elim (same? i d.source) [
          | inl q ↦ upd_at (λ j. link (first_of j es 1) plain) d.source (link new plain) i q
              ∙ ap (λ k. link k plain) (sym (first_fresh d.source es d 1 b refl) ∙ ap (λ j. first_of j more' 1) (sym q))
          | inr q ↦ upd_other (λ j. link (first_of j es 1) plain) d.source (link new plain) i q ∙ ap (λ k. link k plain) (sym (first_other i es d 1 q))
        ];
    ekeys = λ i h. sym (more_at (λ (c : SweptEdge). c.key) (pos 0) es d i);
    targets = λ i h. sym (more_at (λ (c : SweptEdge). c.target) 0 es d i);
    elinks = λ i h. own_link (upd (elink_of es) new (link edge_tail transit)) linked i;
  }
    where
      linked : (i : ℕ) → (i ≡ new → ⊥) → upd (elink_of es) new (link edge_tail transit) i ≡ elink_of more' i
      linked zero n = upd_other (elink_of es) new (link edge_tail transit) 0 n
      linked (suc i) n =
          upd_other (elink_of es) new (link edge_tail transit) (suc i) n
          ∙ elim (same? (suc i) (length es)) [
            | inl q ↦ sym (last_apart es d some (suc i) b (omega arith) q)
            | inr q ↦ sym (elsewhere es d some (suc i) n q)
          ]

  later_agrees : (p : ℕ) → p ≡ length es → 1 ≤ p → source_at es p ≡ d.source → first_of d.source more' 1 ≡ first_of d.source es 1
      → Agree (commit (commit (held ks es) (NewEdge new d.key d.target edge_tail p added)) (EdgeLink new edge_tail added)) (held ks more')
  unfolding commit held
  later_agrees p e low s had = record {
    vertices = refl;
    edges = omega (arith, length-append es (d ∷ []));
    vkeys = λ i h. refl;
    vlinks = λ i h. refl;
    firsts = λ i h.
        ap (λ k. link k plain)
        (elim (same? i d.source) [
          | inl q ↦ ap (λ j. first_of j es 1) q ∙ sym had ∙ ap (λ j. first_of j more' 1) (sym q)
          | inr q ↦ sym (first_other i es d 1 q)
        ]);
    ekeys = λ i h. sym (more_at (λ (c : SweptEdge). c.key) (pos 0) es d i);
    targets = λ i h. sym (more_at (λ (c : SweptEdge). c.target) 0 es d i);
    elinks = λ i h. own_link (upd old p (link new added)) linked i;
  }
    where
      old : ℕ → ℕ
      old = upd (elink_of es) new (link edge_tail transit)

      linked : (i : ℕ) → (i ≡ new → ⊥) → upd old p (link new added) i ≡ elink_of more' i
      linked i n =
          elim (same? i p) [
            | inl q ↦ upd_at old p (link new added) i q ∙ sym (last_joined es d some i (ap (source_at es) q ∙ s) (omega arith) (q ∙ e))
            | inr q ↦ upd_other old p (link new added) i q ∙ upd_other (elink_of es) new (link edge_tail transit) i n
                ∙ sym (elsewhere es d some i n (omega arith))
          ]

below_more : (b c : ℕ) (es : List SweptEdge) → b ≤ c → Below b es → Below c es
below_more b c es h l =
    all_each (λ d. (1 ≤ d.source) × (d.source < b)) (λ d. (1 ≤ d.source) × (d.source < c)) (λ d g. let high = g.1 in (g.0, omega arith)) es l

row_below : (s : ℕ) (es : List SweptEdge) (p : ℕ) → Row s es p → Below (suc s) es
row_below s es p (first e b) = below_more s (suc s) es (omega arith) b
row_below s es p (later before c e q l b) = b

row_agrees : (ks : List ℤ) (es : List SweptEdge) (d : SweptEdge) (p : ℕ) → 1 ≤ d.source → Row d.source es p
    → Agree (commit (commit (held ks es) (edge_write (length es) d.key d.target d.source p)) (EdgeLink (1 + length es) edge_tail added))
    (held ks (es ++ (d ∷ [])))
row_agrees ks es d p some (first e b) =
    subst (λ w. Agree (commit (commit (held ks es) w) (EdgeLink (1 + length es) edge_tail added)) (held ks (es ++ (d ∷ []))))
    (first_written d.key d.key refl (length es) d.target d.source p e)
    (first_agrees ks es d some b)
row_agrees ks es d p some (later before c e q l b) =
    let one : length es ≡ 1 + length before = omega (arith, ap length e, length-append before (c ∷ [])) in
    let low : 1 ≤ p = omega arith in
    subst (λ w. Agree (commit (commit (held ks es) w) (EdgeLink (1 + length es) edge_tail added)) (held ks (es ++ (d ∷ []))))
    (next_written d.key d.key refl (length es) d.target d.source p (omega arith))
    (later_agrees ks es d some p l low
    (ap (λ k. source_at k p) e ∙ new_source before c (omega arith) p (omega arith) ∙ sym q)
    (subst (λ k. first_of d.source (k ++ (d ∷ [])) 1 ≡ first_of d.source k 1) (sym e) (first_had d.source before c d 1 q)))

edge_laid : (ks : List ℤ) (es : List SweptEdge) (d : SweptEdge) (n p : ℕ) → n ≡ length es → 1 ≤ d.source → Row d.source es p
    → with_edge n d.key d.target d.source p (lay (held ks es)) ≡ lay (held ks (es ++ (d ∷ [])))
edge_laid ks es d n p e some r =
    let w = edge_write (length es) d.key d.target d.source p in
    let last = EdgeLink (1 + length es) edge_tail added in
    ap (λ k. with_edge k d.key d.target d.source p (lay (held ks es))) e
    ∙ ap (λ m. committed m last) (committed_lay (held ks es) w)
    ∙ committed_lay (commit (held ks es) w) last
    ∙ lay_agree (row_agrees ks es d p some r)

module _ (keys : ℕ → ℤ) (targets : ℕ → ℕ) where
  -- an edge under the numbers of its source and its target
  abbrev pub made : ℕ → ℕ → SweptEdge
  made s e = record { source = s; target = targets e; key = keys e }

  -- all edges of a list of vertices
  abbrev pub all_made : (ℕ → ℕ) → (ℕ → List ℕ) → List ℕ → List SweptEdge
  all_made number edges = gather (λ x. map (made (number x)) (edges x))

  below_made : (b s : ℕ) (l : List ℕ) → 1 ≤ s → s < b → Below b (map (made s) l)
  below_made b s l low high =
      all_map (λ d. (1 ≤ d.source) × (d.source < b)) (made s) l (all_any (λ e. (1 ≤ s) × (s < b)) (λ e. (low, high)) l)

  module _ (ks : List ℤ) where
    edges_laid : (s : ℕ) → 1 ≤ s → (l : List ℕ) (es : List SweptEdge) (n p : ℕ) → n ≡ length es → Row s es p
        → with_edges keys targets s l n p (lay (held ks es)) ≡ lay (held ks (es ++ map (made s) l))
    unfolding with_edges
    edges_laid s some [] es n p e r = ap (λ k. lay (held ks k)) (sym (append-nil es))
    edges_laid s some (x ∷ l) es n p e r =
        let d : SweptEdge = made s x in
        let long : n + 1 ≡ length (es ++ (d ∷ [])) = omega (arith, length-append es (d ∷ [])) in
        ap (with_edges keys targets s l (n + 1) (n + 1)) (edge_laid ks es d n p e some r)
        ∙ edges_laid s some l (es ++ (d ∷ [])) (n + 1) (n + 1) long (later es d refl refl long (all_append (λ c. (1 ≤ c.source) × (c.source < suc s)) es (d ∷ []) (row_below s es p r) ((some, omega arith), tt)))
        ∙ ap (λ k. lay (held ks k)) (append_assoc es (d ∷ []) (map (made s) l))

    module _ (number : ℕ → ℕ) (edges : ℕ → List ℕ) where
      pub lists_laid : (l : List ℕ) (b : ℕ) (es : List SweptEdge) (n : ℕ) → 1 ≤ b → Numbered (λ i x. number x ≡ i) b l → Below b es → n ≡ length es
          → with_lists keys targets number edges l n (lay (held ks es)) ≡ lay (held ks (es ++ all_made number edges l))
      unfolding with_lists gather
      lists_laid [] b es n some c h e = ap (λ k. lay (held ks k)) (sym (append-nil es))
      lists_laid (x ∷ l) b es n some c h e =
          let s = number x in
          let own = map (made s) (edges x) in
          let here : 1 ≤ s = omega (arith, c.0) in
          ap (with_lists keys targets number edges l (n + length (edges x)))
          (edges_laid s here (edges x) es n edge_tail e (first refl (rw c.0 h)))
          ∙ lists_laid l (suc b) (es ++ own) (n + length (edges x)) (omega arith) c.1
          (all_append (λ d. (1 ≤ d.source) × (d.source < suc b)) es own (below_more b (suc b) es (omega arith) h) (below_made (suc b) s (edges x) here (omega (arith, c.0))))
          (omega (arith, length-append es own, length-map (edges x) (made s)))
          ∙ ap (λ k. lay (held ks k)) (append_assoc es own (all_made number edges l))
