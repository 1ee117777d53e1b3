-- What each change of the lists does to the edges of the live graph.
use Prim.Native.Nat.{ℕ, ◌≤◌, ◌<◌}
use mathlib.Core.Bool.{Bool, true, false, ◌&&◌}
use mathlib.Core.Path.{◌≡◌, refl, sym, ap, ◌∙◌, fun_ext}
use mathlib.Core.Logic.{◌⊎◌, inl, inr}
use native.Mathlib.Omega.{arith}
use lib.IntN.{ℤ}
use Rattle.laws.proofs.Picks.{clash}
use Rattle.row.proofs.Base.{upd_same, upd_at, upd_other, same?}
use Rattle.row.proofs.Lists.LinkLaws.{marked_dead}
use Rattle.row.proofs.Lists.Hindsight.{Moves, plain_down}
use Rattle.row.specs.Lists.Store.{Cat, view, Step}
use Rattle.row.proofs.Lists.Kept.{step_sound, step_moves}
use Rattle.row.specs.Machine.Vertices.{live}
use Rattle.row.proofs.Graphs.LiveSet.{present_live, present_yes, yes_present}
use Rattle.row.proofs.Tests.{eq_z_yes, eq_z_no, same_key?, and_true, bool_iff}
use Rattle.row.specs.Lists.Edges.{Tag, marked, transit, added, Prev, einsert, retag}
use Rattle.row.specs.Machine.World.{World, with_e, edges, put_edge, between}
use Rattle.row.proofs.Graphs.Good.{WGood}
use Rattle.row.proofs.Graphs.Graph.{PresentE, edge_yes, yes_edge, edge_no, same_at}

pair? : (x k y l : ℤ) → ((x ≡ k) × (y ≡ l)) ⊎ ((x ≡ k) × (y ≡ l) → ⊥)
pair? x k y l =
    elim (same_key? x k) [
      | inl a ↦ elim (same_key? y l) [ inl b ↦ inl (a, b) | inr m ↦ inr (λ z. m z.1) ]
      | inr n ↦ inr (λ z. n z.0)
    ]

put_at : (g : ℤ → ℤ → Bool) (k l : ℤ) (b : Bool) (x y : ℤ) → x ≡ k → y ≡ l → {t : Bool} → t ≡ b → t ≡ put_edge g k l b x y
put_at g k l b x y p q e = rw (eq_z_yes x k p, eq_z_yes y l q) e

put_else : (g : ℤ → ℤ → Bool) (k l : ℤ) (b : Bool) (x y : ℤ) → ((x ≡ k) × (y ≡ l) → ⊥) → {t : Bool} → t ≡ g x y → t ≡ put_edge g k l b x y
put_else g k l b x y d e =
    elim (same_key? x k) [
      | inl p ↦ elim (same_key? y l) [ inl q ↦ absurd (d (p, q)) | inr m ↦ rw (eq_z_yes x k p, eq_z_no y l m) e ]
      | inr n ↦ rw (eq_z_no x k n) e
    ]

module _ (W : World) (g : WGood W) where
  -- a step of the vertex list
  pub edges_vstep : (D : Cat) → Step W.v D → edges (record { v = D; e = W.e }) ≡ between (live D) (edges W)
  edges_vstep D t = fun_ext (λ x. fun_ext (λ y. bool_iff (edges X x y) (between (live D) (edges W) x y) (down x y) (up x y)))
    where
      X : World
      X = record { v = D; e = W.e }

      mv : Moves 0 1 (view W.v) (view D)
      mv = step_moves t g.good.sound

      plain_up : (x : ℕ) (a : ℤ) → x < W.v.used → W.v.marked x ≡ false → W.v.key x ≡ a → live D a ≡ true → D.marked x ≡ false
      plain_up x a h m q z = by (D.marked x) refl
        where
          by : (b : Bool) → D.marked x ≡ b → D.marked x ≡ false
          by true f =
              let r = mv.marks_linked x h m f in
              let w : D.key x ≡ a = mv.key_kept x h ∙ q in
              absurd ((rw w at (marked_dead 0 1 (view D) (step_sound t g.good.sound).sorted r f)) (present_live (yes_present D a z)))
          by false f = f

      down : (x y : ℤ) → edges X x y ≡ true → between (live D) (edges W) x y ≡ true
      down x y e =
          let p = yes_edge X x y e in
          let n = p.node in
          let w = g.ends n p.low p.high in
          let a : edges W x y ≡ true = edge_yes W x y (record {
            node = n;
            low = p.low;
            high = p.high;
            is = p.is;
            source = plain_down mv (W.e.owner n) w.source_high p.source;
            goal = plain_down mv (W.e.target n) w.target_high p.goal;
            leaves = sym (mv.key_kept (W.e.owner n) w.source_high) ∙ p.leaves;
            comes = p.comes;
          }) in
          let b : live D x ≡ true = present_yes {C = D} (record { node = W.e.owner n; low = w.source_low; high = mv.stays _ w.source_high; plain = p.source; holds = p.leaves }) in
          let c : live D y ≡ true = present_yes {C = D} (record { node = W.e.target n; low = w.target_low; high = mv.stays _ w.target_high; plain = p.goal; holds = mv.key_kept (W.e.target n) w.target_high ∙ (w.same_key ∙ p.comes) }) in
          rw (a, b, c)

      up : (x y : ℤ) → between (live D) (edges W) x y ≡ true → edges X x y ≡ true
      up x y e =
          let a = and_true (edges W x y) (live D x && live D y) e in
          let b = and_true (live D x) (live D y) a.1 in
          let p = yes_edge W x y a.0 in
          let n = p.node in
          let w = g.ends n p.low p.high in
          edge_yes X x y (record {
            node = n;
            low = p.low;
            high = p.high;
            is = p.is;
            source = plain_up (W.e.owner n) x w.source_high p.source p.leaves b.0;
            goal = plain_up (W.e.target n) y w.target_high p.goal (w.same_key ∙ p.comes) b.1;
            leaves = mv.key_kept (W.e.owner n) w.source_high ∙ p.leaves;
            comes = p.comes;
          })

  pub edges_insert : (u v : ℕ) (k : ℤ) (p : Prev) → edges (with_e W (einsert W.e u v k p)) ≡ edges W
  edges_insert u v k p = fun_ext (λ x. fun_ext (λ y. same_at X W x y (down x y) (up x y)))
    where
      X : World
      X = with_e W (einsert W.e u v k p)

      down : (x y : ℤ) → PresentE X x y → PresentE W x y
      down x y q =
          elim (same? q.node W.e.used) [
            | inl z ↦ clash (cc (q.is, upd_at W.e.tag W.e.used transit q.node z))
            | inr n ↦
                let o = upd_other W.e.owner W.e.used u q.node n in
                let t = upd_other W.e.target W.e.used v q.node n in
                record {
                  node = q.node;
                  low = q.low;
                  high = omega (arith, q.high);
                  is = sym (upd_other _ _ _ _ n) ∙ q.is;
                  source = rw o at q.source;
                  goal = rw t at q.goal;
                  leaves = rw o at q.leaves;
                  comes = sym (upd_other _ _ _ _ n) ∙ q.comes;
                }
          ]

      up : (x y : ℤ) → PresentE W x y → PresentE X x y
      up x y q =
          let h = q.high in
          let n : q.node ≡ W.e.used → ⊥ = omega arith in
          record {
            node = q.node;
            low = q.low;
            high = omega arith;
            is = upd_other _ _ _ _ n ∙ q.is;
            source = rw (upd_other W.e.owner W.e.used u q.node n) q.source;
            goal = rw (upd_other W.e.target W.e.used v q.node n) q.goal;
            leaves = rw (upd_other W.e.owner W.e.used u q.node n) q.leaves;
            comes = upd_other _ _ _ _ n ∙ q.comes;
          }

  -- ---- a node gets another tag

  module _ (c : ℕ) where
    -- an edge of another node was there, and still is
    module _ (t : Tag) {x y : ℤ} where
      was_there : (q : PresentE (with_e W (retag W.e c t)) x y) → (q.node ≡ c → ⊥) → PresentE W x y
      was_there q n = record { node = q.node; low = q.low; high = q.high; is = sym (upd_other _ _ _ _ n) ∙ q.is; source = q.source; goal = q.goal; leaves = q.leaves; comes = q.comes }

      still_there : (q : PresentE W x y) → (q.node ≡ c → ⊥) → PresentE (with_e W (retag W.e c t)) x y
      still_there q n = record { node = q.node; low = q.low; high = q.high; is = upd_other _ _ _ _ n ∙ q.is; source = q.source; goal = q.goal; leaves = q.leaves; comes = q.comes }

    -- a node that is marked is no edge
    not_marked : {x y : ℤ} (q : PresentE (with_e W (retag W.e c marked)) x y) → q.node ≡ c → ⊥
    not_marked q z = clash (cc (q.is, upd_at W.e.tag c marked q.node z))

  -- a node that is no live edge is marked
  pub edges_drop : (c : ℕ) → (W.e.tag c ≡ added → W.v.marked (W.e.target c) ≡ false → ⊥) → edges (with_e W (retag W.e c marked)) ≡ edges W
  edges_drop c d =
      fun_ext (λ x. fun_ext (λ y. same_at (with_e W (retag W.e c marked)) W x y (λ q. was_there c marked q (not_marked c q))
      (λ q. still_there c marked q (λ z. d (rw z at q.is) (rw z at q.goal)))))

  -- the pair of a node
  abbrev Its : ℕ → ℤ → ℤ → Type 0
  Its c k l = (W.v.key (W.e.owner c) ≡ k) × (W.e.key c ≡ l)

  own_pair : (c d : ℕ) {k l x y : ℤ} → Its c k l → Its d x y → d ≡ c → (x ≡ k) × (y ≡ l)
  own_pair c d i j z = (sym j.0 ∙ (ap (λ n. W.v.key (W.e.owner n)) z ∙ i.0), sym j.1 ∙ (ap W.e.key z ∙ i.1))

  -- a node gets added, a node that was added gets marked
  pub edges_on : (c : ℕ) (k l : ℤ) → 1 ≤ c → c < W.e.used → W.v.marked (W.e.owner c) ≡ false → W.v.marked (W.e.target c) ≡ false
      → W.v.key (W.e.owner c) ≡ k → W.e.key c ≡ l → edges (with_e W (retag W.e c added)) ≡ put_edge (edges W) k l true
  edges_on c k l lo hi m n a b =
      fun_ext (λ x. fun_ext (λ y.
      elim (pair? x k y l) [
        | inl z ↦ put_at (edges W) k l true x y z.0 z.1 (edge_yes X x y (record { node = c; low = lo; high = hi; is = upd_same _ _ _; source = m; goal = n; leaves = a ∙ sym z.0; comes = b ∙ sym z.1 }))
        | inr d ↦ put_else (edges W) k l true x y d (same_at X W x y
            (λ q. was_there c added q (λ z. d (own_pair c q.node (a, b) (q.leaves, q.comes) z)))
            (λ q. still_there c added q (λ z. d (own_pair c q.node (a, b) (q.leaves, q.comes) z))))
      ]))
    where
      X : World
      X = with_e W (retag W.e c added)

  pub edges_off : (c : ℕ) (k l : ℤ) → ((p : PresentE W k l) → p.node ≡ c) → W.v.key (W.e.owner c) ≡ k → W.e.key c ≡ l
      → edges (with_e W (retag W.e c marked)) ≡ put_edge (edges W) k l false
  unfolding was_there
  edges_off c k l only a b =
      fun_ext (λ x. fun_ext (λ y.
      elim (pair? x k y l) [
        | inl z ↦ put_at (edges W) k l false x y z.0 z.1 (edge_no X x y (gone x y z.0 z.1))
        | inr d ↦ put_else (edges W) k l false x y d (same_at X W x y (λ q. was_there c marked q (not_marked c q))
            (λ q. still_there c marked q (λ z. d (own_pair c q.node (a, b) (q.leaves, q.comes) z))))
      ]))
    where
      X : World
      X = with_e W (retag W.e c marked)

      gone : (x y : ℤ) → x ≡ k → y ≡ l → PresentE X x y → ⊥
      gone x y e f q =
          let p = was_there c marked q (not_marked c q) in
          not_marked c q (only (record { node = p.node; low = p.low; high = p.high; is = p.is; source = p.source; goal = p.goal; leaves = p.leaves ∙ e; comes = p.comes ∙ f }))
