-- Every step of every operation has one of the outcomes, whatever the history.
use Prim.Native.Nat.{ℕ}
use mathlib.Core.Bool.{Bool, true, false, cond, ◌&&◌, ◌||◌}
use mathlib.Core.Path.{◌≡◌, refl, sym, ap, ◌∙◌}
use mathlib.Core.Logic.{◌⊎◌, inl, inr}
use native.Mathlib.Omega.{arith}
use lib.IntN.{ℤ}
use lib.Dec.{eqb, leb}
use lib.Signed.{◌<ℤ◌, lt_z, <ℤ_irrefl}
use borrow.Author.Tests.{eqb-true, eqb-false}
use Rattle.laws.proofs.Picks.{clash}
use Rattle.row.proofs.Base.{upd_same, lt_z_true}
use Rattle.row.proofs.Lists.LinkLaws.{no_tail, gap_dead}
use Rattle.catalogue.specs.Tests.{eq_z}
use Rattle.row.specs.Machine.Vertices.{Idle, live}
use Rattle.row.specs.Machine.Vertices
use Rattle.laws.proofs.Rules.{eq_z_eq}
use Rattle.row.proofs.Graphs.LiveSet.{present_yes}
use Rattle.row.proofs.Tests.{eq_z_yes, eq_z_no, not_below, or_true}
use Rattle.row.proofs.Steps.VertexDeeds.{vdid}
use Rattle.row.specs.Lists.Edges.{marked, transit, added, Prev, head, at, is_marked, InList, Mine, eview, einsert, eunlink, retag, EInner, Turns}
use Rattle.row.specs.Machine.World.{World, Ask, addE, conE, Next, closed, opened, Hunt, hunt_from, stands_at, meets, took, Spot, Rest, Vert, FindU, FindV, LookE, ConE, Trial, goes, says, with_e, is_added, edges, graph}
use Rattle.row.specs.Machine.Moves.{vlook, con_e, ESeen, e_dead, e_again, e_passes, e_marks, e_onward, e_settle, elook, look_e, trial, move}
use Rattle.row.proofs.Graphs.Older.{Older}
use Rattle.row.proofs.Graphs.Good.{WGood}
use Rattle.row.proofs.Graphs.Graph.{PresentE, added_is, added_plain, edge_yes, edge_no, vunique, listed, edge_is_c}
use Rattle.row.proofs.Graphs.Changes.{edges_insert, edges_drop, edges_on, edges_off}
use Rattle.row.proofs.Steps.Spots.{EAims, Pair, Own, HuntOk, Ok, edit, Serves}
use Rattle.row.proofs.Steps.Deeds.{Deed, pair_up, ok_up}
use Rattle.row.proofs.Steps.Writes.{deed_rest, deed_unlink, deed_retag, deed_insert}
use Rattle.row.proofs.Steps.Outcomes.{settled, e_looks, e_walks, e_tries, e_trying, look_dead, try_dead, con_dead, edge_miss, Did, does_on, does_now, does_out, does_past}
use Rattle.row.proofs.Steps.VertexDoing.{graph_path, vert_did}
use Rattle.row.proofs.Steps.Finding.{vmeans, u_did, aims_head, v_did}
use Rattle.row.proofs.Steps.EdgeMeans.{below_tail, Calm, calm, ELeads, EMeans, m_dead, m_again, m_passes, m_marks, m_onward, m_settle, emeans, marked_is}
use Rattle.row.proofs.Steps.TrialMeans.{TMeans, t_dead, t_done, t_source, t_drops, t_enters, t_closes, t_meets, t_passes, tmeans}
use Rattle.row.proofs.Steps.Hunting.{hunt_start, hunt_close, hunt_pass, hunt_meet, hunt_drop, hunt_enter, hunt_done}

module _ (W : World) (g : WGood W) (k l : ℤ) (u v : ℕ) (pr : Pair W k l u v) where
  -- a node whose key is not above l is no tail
  e_inner : (c : ℕ) → (W.e.key c <ℤ l) ⊎ (W.e.key c ≡ l) → c ≡ 0 → ⊥
  e_inner = below_tail W g l pr.legal

  c_mine : {p : Prev} {c : ℕ} → EAims W.e u l p → ELeads W u p c → Mine W.e u (at c)
  c_mine {p} a w = rw w.leads at ((g.esound.sorted u).follows p a.inside a.inner).inside

  e_place : {p : Prev} {c : ℕ} → EAims W.e u l p → ELeads W u p c → EInner W.e u p
  e_place a w = record { inside = a.inside; inner = a.inner; plain = w.plain }

  pub live_u : Calm W u v → live W.v k ≡ true
  live_u m = present_yes {C = W.v} (record { node = u; low = pr.source.low; high = pr.source.high; plain = m.source; holds = pr.source.holds })

  pub live_v : Calm W u v → live W.v l ≡ true
  live_v m = present_yes {C = W.v} (record { node = v; low = pr.goal.low; high = pr.goal.high; plain = m.goal; holds = pr.goal.holds })

  present_c : (c : ℕ) → Calm W u v → InList W.e u c → W.e.tag c ≡ added → W.v.marked (W.e.target c) ≡ false → W.e.key c ≡ l → PresentE W k l
  present_c c m i t x e = record {
    node = c;
    low = i.low;
    high = i.high;
    is = t;
    source = rw i.own m.source;
    goal = x;
    leaves = rw i.own pr.source.holds;
    comes = e;
  }

  -- where an unmarked node of u's list with key l is no live edge, there is no other
  absent_c : (c : ℕ) → W.v.marked u ≡ false → InList W.e u c → is_marked (W.e.tag c) ≡ false → W.e.key c ≡ l
      → (W.e.tag c ≡ added → W.v.marked (W.e.target c) ≡ false → ⊥) → edges W k l ≡ false
  absent_c c m i n e d =
      edge_no W k l (λ p. let z : p.node ≡ c = edge_is_c W g u c pr.source m i n e p in d (rw z at p.is) (rw z at p.goal))

  pub absent_gap : {p : Prev} {c : ℕ} → EAims W.e u l p → ELeads W u p c → W.v.marked u ≡ false → l <ℤ W.e.key c → edges W k l ≡ false
  absent_gap {p} {c} a w m h =
      let s = g.esound.sorted u in
      edge_no W k l (λ q. gap_dead head (at 0) (eview W.e u) s (s.linked p a.inside w.plain) a.below (rw w.leads h) a.inner (listed W g u pr.source m q))

  transit_not : (c : ℕ) → W.e.tag c ≡ transit → W.e.tag c ≡ added → ⊥
  transit_not c e f = clash (cc)

  look_did : (b : Bool) (p : Prev) (c : ℕ) → EAims W.e u l p → (q : Ask) → q ≡ edit b k l → (z : ESeen) → EMeans W l u v p c z
      → Did W q (LookE b k l u v p c) (look_e W b k l u v p c z)
  look_did b p c a q e e_dead (m_dead d) = does_past 3 (deed_rest W g 0) refl refl (rw e (look_dead b k l u v p c d pr))
  look_did b p c a q e e_again m_again =
      does_on (LookE b k l u v head (W.e.first u)) (deed_rest W g 0) refl (pr, aims_head W g u l pr.legal) e (inl refl) (e_looks b k l u v p head c (W.e.first u))
  look_did b p c a q e e_passes (m_passes w m) =
      let d = deed_unlink W g 0 u p (record { place = e_place a w; gone = rw w.leads (marked_is (W.e.tag c) m) }) in
      does_on (LookE b k l u v p (W.e.next c)) d refl (ok_up W (with_e W (eunlink W.e u p)) 0 d (LookE b k l u v p c) (λ x y. omega arith) (pr, a)) e (inl refl)
      (e_looks b k l u v p p c (W.e.next c))
  look_did b p c a q e e_marks (m_marks w t x) =
      let n : c ≡ 0 → ⊥ = λ z. transit_not c (ap W.e.tag z ∙ g.tail_tag) t in
      let i = no_tail W.e u c (c_mine a w) n in
      let d = deed_retag W g 0 c marked (record { low = i.low; high = i.high; plain = added_plain (W.e.tag c) t }) (λ z. absurd (transit_not c z t)) (λ z. clash (cc)) in
      does_on (LookE b k l u v p c) d (graph_path refl (edges_drop W g c (λ y z. clash (cc))))
      (ok_up W (with_e W (retag W.e c marked)) 0 d (LookE b k l u v p c) (λ x y. omega arith) (pr, a)) e (inl refl)
      (e_looks b k l u v p p c c)
  look_did b p c a q e e_onward (m_onward w m h) =
      let n = e_inner c (inl h) in
      does_on (LookE b k l u v (at c) (W.e.next c)) (deed_rest W g 0) refl
      (pr, record { inside = c_mine a w; inner = λ z. n (cc); below = h }) e (inl refl) (e_looks b k l u v p (at c) c (W.e.next c))
  look_did true p c a q e e_settle (m_settle m w n f (inl h)) =
      let i = no_tail W.e u c (c_mine a w) (e_inner c (inr h)) in
      rw (eq_z_yes (W.e.key c) l h) (by i (is_added (W.e.tag c)) refl)
    where
      by : InList W.e u c → (t : Bool) → is_added (W.e.tag c) ≡ t → Did W q (LookE true k l u v p c) (cond t (says W 4) (says W 7))
      by i true t =
          let x = added_is (W.e.tag c) t in
          does_now 4 (deed_rest W g 0) refl (rw (e, live_u m, live_v m, edge_yes W k l (present_c c m i x (f x) h)))
      by i false t = does_out 7 (deed_rest W g 0) refl refl
  look_did true p c a q e e_settle (m_settle m w n f (inr h)) =
      rw (eq_z_no (W.e.key c) l (λ z. <ℤ_irrefl {a = l} (rw z at h))) (by (leb 2048 W.e.used))
    where
      by : (t : Bool) → Did W q (LookE true k l u v p c) (cond t (says W 9) (goes (with_e W (einsert W.e u v l p)) (Trial k l u v W.e.used (hunt_from v))))
      by true = does_out 9 (deed_rest W g 0) refl refl
      by false =
          let d = deed_insert W g 0 k l u v p pr.source pr.goal (record { place = e_place a w; below = a.below; above = rw w.leads h }) in
          let s = g.esound.some in
          does_on (Trial k l u v W.e.used (hunt_from v)) d (graph_path refl (edges_insert W g u v l p))
          (pair_up d pr, record { low = s; high = omega arith; tried = upd_same _ _ _; from_u = upd_same _ _ _; to_v = upd_same _ _ _; key_l = upd_same _ _ _ }, hunt_start (with_e W (einsert W.e u v l p)) u v W.e.used)
          e (inr (inl refl)) (e_tries true k l u v p c W.e.used)
  look_did false p c a q e e_settle (m_settle m w n f (inl h)) =
      let i = no_tail W.e u c (c_mine a w) (e_inner c (inr h)) in
      rw (eq_z_yes (W.e.key c) l h) (by i (is_added (W.e.tag c)) refl)
    where
      by : InList W.e u c → (t : Bool) → is_added (W.e.tag c) ≡ t → Did W q (LookE false k l u v p c) (cond t (says (with_e W (retag W.e c marked)) 1) (says W 5))
      by i true t =
          let x = added_is (W.e.tag c) t in
          let d = deed_retag W g 0 c marked (record { low = i.low; high = i.high; plain = n }) (λ z. absurd (transit_not c z x)) (λ z. clash (cc)) in
          does_now 1 d refl (rw (
            e,
            live_u m,
            live_v m,
            edge_yes W k l (present_c c m i x (f x) h),
            edges_off W g c k l (edge_is_c W g u c pr.source m.source i n h) (rw i.own pr.source.holds) h,
          ))
      by i false t = does_now 5 (deed_rest W g 0) refl (rw (e, live_u m, live_v m, absent_c c m.source i n h (λ z y. clash (cc (ap is_added z)))))
  look_did false p c a q e e_settle (m_settle m w n f (inr h)) =
      rw (eq_z_no (W.e.key c) l (λ z. <ℤ_irrefl {a = l} (rw z at h)))
      (does_now 5 (deed_rest W g 0) refl (rw (e, live_u m, live_v m, absent_gap a w m.source h)))

  con_did : (c : ℕ) → Mine W.e u (at c) → (q : Ask) → q ≡ conE k l → Did W q (ConE k l u v c) (con_e W k l u v c)
  con_did c i q e =
      by (lt_z (W.e.key c) l) (W.v.marked u || W.v.marked v) (eq_z (W.e.key c) l) (is_added (W.e.tag c)) (eqb (W.e.target c) v) (is_marked (W.e.tag c))
      refl refl refl refl refl refl
    where
      rest : Deed W W 0
      rest = deed_rest W g 0

      by : (x d y t z m : Bool) → lt_z (W.e.key c) l ≡ x → (W.v.marked u || W.v.marked v) ≡ d → eq_z (W.e.key c) l ≡ y
          → is_added (W.e.tag c) ≡ t → eqb (W.e.target c) v ≡ z → is_marked (W.e.tag c) ≡ m
          → Did W q (ConE k l u v c) (cond x (goes W (ConE k l u v (W.e.next c))) (cond d (says W 8) (cond (y && (t && z)) (says W 1) (says W 8))))
      by true d y t z m e1 e2 e3 e4 e5 e6 =
          let h = lt_z_true (W.e.key c) l e1 in
          let n = e_inner c (inl h) in
          does_on (ConE k l u v (W.e.next c)) rest refl (pr, ((g.esound.sorted u).follows (at c) i (λ j. n (cc))).inside) e (inl refl) (e_walks k l u v c h n)
      by false true y t z m e1 e2 e3 e4 e5 e6 = does_past 8 rest refl refl (rw e (con_dead k l u v c (or_true (W.v.marked u) (W.v.marked v) e2) pr))
      by false false false t z m e1 e2 e3 e4 e5 e6 =
          does_past 8 rest refl refl (rw e (edge_miss k l u v c (calm W u v e2).source pr
          (elim (not_below (W.e.key c) l e1) [ inl j ↦ clash (cc (eq_z_yes (W.e.key c) l j)) | inr j ↦ inr j ])))
      by false false true true true m e1 e2 e3 e4 e5 e6 =
          let h = eq_z_eq (W.e.key c) l e3 in
          let x : W.v.marked (W.e.target c) ≡ false = rw (eqb-true (W.e.target c) v e5) (calm W u v e2).goal in
          does_now 1 rest refl (rw (e, edge_yes W k l (present_c c (calm W u v e2) (no_tail W.e u c i (e_inner c (inr h))) (added_is (W.e.tag c) e4) x h)))
      by false false true true false true e1 e2 e3 e4 e5 e6 =
          does_past 8 rest refl refl (rw e (edge_miss k l u v c (calm W u v e2).source pr (inl (eq_z_eq (W.e.key c) l e3, e6))))
      by false false true true false false e1 e2 e3 e4 e5 e6 =
          let h = eq_z_eq (W.e.key c) l e3 in
          let j = no_tail W.e u c i (e_inner c (inr h)) in
          let w = g.ends c j.low j.high in
          does_now 8 rest refl (rw (
            e,
            absent_c c (calm W u v e2).source j e6 h (λ a b.
                eqb-false (W.e.target c) v e5 (vunique W g l (W.e.target c) v w.target_high pr.goal.high b (calm W u v e2).goal (w.same_key ∙ (h ∙ sym pr.goal.holds)))),
          ))
      by false false true false z true e1 e2 e3 e4 e5 e6 =
          does_past 8 rest refl refl (rw e (edge_miss k l u v c (calm W u v e2).source pr (inl (eq_z_eq (W.e.key c) l e3, e6))))
      by false false true false z false e1 e2 e3 e4 e5 e6 =
          let h = eq_z_eq (W.e.key c) l e3 in
          does_now 8 rest refl (rw (e, absent_c c (calm W u v e2).source (no_tail W.e u c i (e_inner c (inr h))) e6 h (λ a b. clash (cc (ap is_added a)))))

  trial_did : (x : ℕ) (h : Hunt) → Own W.e l u v x → HuntOk W u v x h → (q : Ask) → q ≡ addE k l → (z : Next) → TMeans W k l u v x h z
      → Did W q (Trial k l u v x h) z
  trial_did x h o t q e = by
    where
      plain : is_marked (W.e.tag x) ≡ false
      plain = rw o.tried

      turns : Turns W.e x
      turns = record { low = o.low; high = o.high; plain = plain }

      off : Deed W (with_e W (retag W.e x marked)) x
      off = deed_retag W g x x marked turns (λ z. refl) (λ z. clash (cc))

      dropped : graph (with_e W (retag W.e x marked)) ≡ graph W
      dropped = graph_path refl (edges_drop W g x (λ y z. transit_not x o.tried y))

      i : InList W.e u x
      i = record { low = o.low; high = o.high; own = o.from_u }

      goes_to : (z : Hunt) → HuntOk W u v x z → Did W q (Trial k l u v x h) (goes W (Trial k l u v x z))
      goes_to z w = does_on (Trial k l u v x z) (deed_rest W g x) refl (pr, o, w) e (inl refl) (e_trying k l u v x h z)

      by : (z : Next) → TMeans W k l u v x h z → Did W q (Trial k l u v x h) z
      by z (t_dead d) = does_past 3 off refl dropped (rw e (try_dead k l u v x h d pr))
      by z (t_done m s r) =
          let none : Older W x (W.e.target x) (W.e.owner x) → ⊥ = rw (o.to_v, o.from_u) (hunt_done W g u v x h t s r) in
          does_now 1 (deed_retag W g x x added turns (λ y. refl) (λ z. none)) refl
          (rw (
            e,
            live_u m,
            live_v m,
            absent_c x m.source i plain o.key_l (λ y z. transit_not x o.tried y),
            edges_on W g x k l o.low o.high (rw o.from_u m.source) (rw o.to_v m.goal) (rw o.from_u pr.source.holds) o.key_l,
          ))
      by z (t_source s) = does_out 6 off refl dropped
      by z (t_drops m s y ys r n f) = goes_to (took h y ys closed) (hunt_drop W g u v x h t s y ys r n f)
      by z (t_enters m s y ys r n f) = goes_to (took h y ys (opened y (W.e.first y))) (hunt_enter W g u v x h t s y ys r n)
      by z (t_closes m y c s d) = goes_to (stands_at h closed) (hunt_close W g u v x h t y c s d)
      by z (t_meets m y c s n f) = goes_to (meets h (W.e.target c) (opened y (W.e.next c))) (hunt_meet W g u v x h t y c s n)
      by z (t_passes m y c s n f) = goes_to (stands_at h (opened y (W.e.next c))) (hunt_pass W g u v x h t y c s n f)

pub did : (W : World) → WGood W → (q : Ask) (pl : Spot) → Ok W pl → Serves q pl → Did W q pl (move W pl)
did W g q Rest o v = does_on Rest (deed_rest W g 0) refl tt tt (inl refl) (settled Idle tt (λ r. r))
did W g q (Vert pl) o v = rw v.1 (vert_did W g v.0 pl (Vertices.step W.v pl) (vdid W.v g.good v.0 pl o v.2))
did W g q (FindU b k l c) o v = u_did W g b k l c o.0 o.1 o.2 q v (vlook W.v k c) (vmeans W.v k c)
did W g q (FindV b k l u c) o v = v_did W g b k l u c o.0 o.1 o.2 q v (vlook W.v l c) (vmeans W.v l c)
did W g q (LookE b k l u x p c) o v = look_did W g k l u x o.0 b p c o.1 q v (elook W l u x p c) (emeans W l u x p c)
did W g q (ConE k l u x c) o v = con_did W g k l u x o.0 c o.1 q v
did W g q (Trial k l u x e h) o v = trial_did W g k l u x o.0 e h o.1 o.2 q v (trial W k l u x e h) (tmeans W k l u x e h)
