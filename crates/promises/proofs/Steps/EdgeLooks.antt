-- One look of AddE and RemE: what document 01's catalogue lets a worker see is what the world does.
use Prim.Native.Nat.{ℕ, ◌<◌}
use mathlib.Core.Bool.{Bool, true, false, cond, not, ◌&&◌, ◌||◌}
use mathlib.Core.Path.{◌≡◌, refl, ap, ◌∙◌}
use mathlib.Core.Logic.{inl, inr}
use native.Mathlib.Omega.{arith}
use borrow.Author.Tests.{eqb-true, eq-eqb, ne_eqb, lt-ltb}
use lib.IntN.{ℤ}
use lib.Dec.{eqb}
use lib.Signed.{lt_z}
use Rattle.catalogue.specs.Tests.{pick, eq_z}
use Rattle.catalogue.specs.Numbers.{plain, some_link}
use Rattle.catalogue.specs.Catalogue.{Catalogue, vertex_link, edge_target, at_mark, at_target}
use Rattle.catalogue.specs.Steps.Both.{at_both}
use Rattle.catalogue.specs.Steps.Edges.{link_behind, see_key, see_edge, see_behind, look_at_edge, landed}
use Rattle.catalogue.specs.declared.steps.BothSeen.TheVariants as both
use Rattle.catalogue.specs.declared.steps.EdgeSeen.{EdgeSeen}
use Rattle.catalogue.specs.declared.steps.EdgeSeen.TheVariants as seen
use Rattle.row.proofs.Base.{lt_z_true}
use Rattle.laws.proofs.Rules.{eq_z_eq, not_true_false}
use Rattle.row.proofs.Steps.VertexDeeds.{Legal}
use Rattle.row.specs.Lists.Edges.{Tag, marked, transit, added, Prev, head, at, is_marked, tag_at, link, Mine}
use Rattle.row.specs.Machine.World.{World, is_added}
use Rattle.row.specs.Machine.Moves.{ESeen, e_dead, e_again, e_passes, e_marks, e_onward, e_settle, elook}
use Rattle.row.proofs.Graphs.Good.{WGood}
use Rattle.row.proofs.Steps.Spots.{EAims}
use Rattle.promises.proofs.Showing.Shows.{Shows, Series, prev_of, edge_tag_of, between}
use Rattle.promises.proofs.Showing.Marks.{edge_is_marked, mark_seen, both_seen}
use Rattle.promises.proofs.Showing.Pools.{target_series}
use Rattle.row.proofs.Lists.LinkLaws.{no_tail}
use Rattle.row.proofs.Steps.EdgeMeans.{below_tail}
use Rattle.promises.proofs.Showing.EdgeLinks.{Out, Behind, tag_behind}

-- What the definitions see, and the machine, with what is then known of c.
-- Where the keys differ c may be the tail, which has no tag.
pub data Sees (W : World) (l : ℤ) (u : ℕ) (p : Prev) (c : ℕ) : EdgeSeen → ESeen → Type 0 where
  dead : Sees W l u p c seen.Dead e_dead
  again : Sees W l u p c seen.Again e_again
  passes : link W.e u p ≡ c → Out W.e.used c → Sees W l u p c (seen.Unlinks (tag_behind W.e.tag p) (W.e.next c)) e_passes
  marks : Out W.e.used c → Sees W l u p c (seen.Marks (W.e.next c)) e_marks
  onward : Out W.e.used c → Sees W l u p c (seen.Onward (W.e.next c)) e_onward
  equal : link W.e u p ≡ c → Out W.e.used c → eq_z (W.e.key c) l ≡ true → (t : Tag) → W.e.tag c ≡ t → is_marked t ≡ false
      → Sees W l u p c (seen.Settles (landed (tag_behind W.e.tag p) (W.e.next c) (edge_tag_of t) true)) e_settle
  other : link W.e u p ≡ c → eq_z (W.e.key c) l ≡ false → (next tag : ℕ)
      → Sees W l u p c (seen.Settles (landed (tag_behind W.e.tag p) next tag false)) e_settle

-- the machine's look at c, for a p that leads there
abbrev looks_there : World → ℤ → ℕ → ESeen
looks_there W l c =
    cond (is_marked (W.e.tag c)) e_passes
    (cond (is_added (W.e.tag c) && W.v.marked (W.e.target c)) e_marks
    (cond (lt_z (W.e.key c) l) e_onward e_settle))

-- the test of p's mark
behind_marked : (tag : ℕ → Tag) (p : Prev) → eqb (tag_behind tag p) 1 ≡ tag_at tag p
behind_marked tag head = refl
behind_marked tag (at p) = edge_is_marked (tag p)

-- p is no tail
pub aims_behind : (W : World) (u : ℕ) (l : ℤ) (p : Prev) → EAims W.e u l p → Behind W.e.used p
aims_behind W u l head a = tt
aims_behind W u l (at p) a = let o = no_tail W.e u p a.inside (λ z. a.inner (ap at z)) in (o.low, o.high)

-- p's link
behind_seen : (C : Catalogue) (W : World) → Shows C W → (u : ℕ) (p : Prev) → Series W.v.used u → Behind W.e.used p
    → link_behind C u (prev_of p) ≡ some_link (link W.e u p) (tag_behind W.e.tag p)
behind_seen C W s u head o b = s.firsts u o.low o.high
behind_seen C W s u (at p) o b = s.elinks p b.0 b.1

module _ (C : Catalogue) (W : World) (s : Shows C W) (g : WGood W) (l : ℤ) (u : ℕ) (p : Prev) (c : ℕ) (legal : Legal l) (aims : EAims W.e u l p) where
  abbrev kept : ℕ
  kept = tag_behind W.e.tag p

  -- (e), (f): c's key, lower or equal
  abbrev by_key : ℕ → ℕ → Bool → Bool → EdgeSeen
  by_key next tag lower same = pick lower (seen.Onward next) (pick same (seen.Settles (landed kept next tag true)) (seen.Settles (landed kept next tag false)))

  key_seen : (next tag : ℕ) → c < W.e.used → see_key C l c kept next tag ≡ by_key next tag (lt_z (W.e.key c) l) (eq_z (W.e.key c) l)
  unfolding see_key
  key_seen next tag h = rw (s.ekeys c h)

  key_sees : (t : Tag) → W.e.tag c ≡ t → is_marked t ≡ false → link W.e u p ≡ c → Out W.e.used c
      → Sees W l u p c (see_key C l c kept (W.e.next c) (edge_tag_of t)) (cond (lt_z (W.e.key c) l) e_onward e_settle)
  key_sees t e m lead o = rw (key_seen (W.e.next c) (edge_tag_of t) o.1) (by (lt_z (W.e.key c) l) (eq_z (W.e.key c) l) refl)
    where
      by : (b q : Bool) → eq_z (W.e.key c) l ≡ q → Sees W l u p c (by_key (W.e.next c) (edge_tag_of t) b q) (cond b e_onward e_settle)
      by true q f = onward o
      by false true f = equal lead o f t e m
      by false false f = other lead f (W.e.next c) (edge_tag_of t)

  -- (c), (d): c's tag, where c is no tail
  tag_sees : link W.e u p ≡ c → Out W.e.used c → Sees W l u p c (see_edge C l c kept) (looks_there W l c)
  unfolding see_edge
  tag_sees lead o = rw (ne_eqb c 0 (λ z. omega (arith, o.0)), s.elinks c o.0 o.1) (by (W.e.tag c) refl)
    where
      by : (t : Tag) → W.e.tag c ≡ t → Sees W l u p c
          (pick (eqb (edge_tag_of t) 1) (seen.Unlinks kept (W.e.next c))
          (pick (eqb (edge_tag_of t) 3)
          (at_target (edge_target C c) seen.Torn (λ y.
          at_mark (vertex_link C y) seen.Torn (seen.Marks (W.e.next c)) (see_key C l c kept (W.e.next c) (edge_tag_of t))))
          (see_key C l c kept (W.e.next c) (edge_tag_of t))))
          (cond (is_marked t) e_passes (cond (is_added t && W.v.marked (W.e.target c)) e_marks (cond (lt_z (W.e.key c) l) e_onward e_settle)))
      by marked e = passes lead o
      by transit e = key_sees transit e refl lead o
      by added e =
          let goal = target_series W g c o.0 o.1 in
          rw (s.targets c o.0 o.1, mark_seen C W s (W.e.target c) goal seen.Torn (seen.Marks (W.e.next c)) (see_key C l c kept (W.e.next c) 3))
          (on (W.v.marked (W.e.target c)))
        where
          on : (b : Bool) → Sees W l u p c (pick b (seen.Marks (W.e.next c)) (see_key C l c kept (W.e.next c) 3))
              (cond b e_marks (cond (lt_z (W.e.key c) l) e_onward e_settle))
          on true = marks o
          on false = key_sees added e refl lead o

  -- the tail: its key is above l, and the machine's tag there is no mark
  tail_sees : link W.e u p ≡ c → c ≡ 0 → Sees W l u p c (see_edge C l c kept) (looks_there W l c)
  unfolding see_edge
  tail_sees lead z =
      rw (eq-eqb c 0 z, key_seen 0 plain (omega (arith, g.esound.some)), ap W.e.tag z ∙ g.tail_tag) (rw (not_lower, not_equal) (other lead not_equal 0 plain))
    where
      not_lower : lt_z (W.e.key c) l ≡ false
      not_lower = not_true_false (lt_z (W.e.key c) l) (λ e. below_tail W g l legal c (inl (lt_z_true (W.e.key c) l e)) z)

      not_equal : eq_z (W.e.key c) l ≡ false
      not_equal = not_true_false (eq_z (W.e.key c) l) (λ e. below_tail W g l legal c (inr (eq_z_eq (W.e.key c) l e)) z)

  edge_sees : link W.e u p ≡ c → Sees W l u p c (see_edge C l c kept) (looks_there W l c)
  edge_sees lead = by (rw lead at ((g.esound.sorted u).follows p aims.inside aims.inner).inside)
    where
      by : Mine W.e u (at c) → Sees W l u p c (see_edge C l c kept) (looks_there W l c)
      by (inl z) = tail_sees lead z
      by (inr o) = tag_sees lead (o.low, o.high)

  -- (b): p's link; (a): u and v
  module _ (k : ℤ) (v : ℕ) (fits : c < 2048) (source : Series W.v.used u) (goal : Series W.v.used v) where
    pub sees : Sees W l u p c (look_at_edge C (between k l u v) (prev_of p) c) (elook W l u v p c)
    unfolding look_at_edge see_behind
    sees =
        rw (both_seen C W s u v source goal, behind_seen C W s u p source (aims_behind W u l p aims), behind_marked W.e.tag p, lt-ltb c 2048 fits)
        (by (W.v.marked u || W.v.marked v) (tag_at W.e.tag p) (eqb (link W.e u p) c) refl)
      where
        by : (d m q : Bool) → eqb (link W.e u p) c ≡ q → Sees W l u p c
            (at_both (cond d both.Dead both.Standing) seen.Torn seen.Dead (pick m seen.Again (pick q (see_edge C l c kept) seen.Again)))
            (cond d e_dead (cond (q && not m) (looks_there W l c) e_again))
        by true m q e = dead
        by false true true e = again
        by false true false e = again
        by false false true e = edge_sees (eqb-true (link W.e u p) c e)
        by false false false e = again
