-- A look at the vertices sees in the catalogue what the machine of `row` sees in the world that it shows.
use Prim.Native.Nat.{ℕ, ◌<◌}
use mathlib.Core.Bool.{Bool, true, false, cond, not, ◌&&◌}
use mathlib.Core.Path.{◌≡◌, refl, ap}
use mathlib.Core.Logic.{inl, inr}
use native.Mathlib.Omega.{arith}
use borrow.Author.Tests.{eqb-true, ne_eqb}
use lib.IntN.{ℤ}
use lib.Dec.{eqb}
use lib.Signed.{lt_z}
use Rattle.catalogue.specs.Tests.{pick, eq_z}
use Rattle.catalogue.specs.Numbers.{plain, marked, some_link}
use Rattle.catalogue.specs.Catalogue.{Catalogue, vertex_link, vertex_link_in}
use Rattle.catalogue.specs.Steps.Vertices.{see_vertex, look_at_vertex}
use Rattle.catalogue.specs.Steps.Finding.{look_for}
use Rattle.catalogue.specs.declared.steps.VertexSeen.{VertexSeen}
use Rattle.catalogue.specs.declared.steps.VertexSeen.TheVariants as seen
use Rattle.catalogue.specs.declared.steps.VertexFound.{VertexFound}
use Rattle.catalogue.specs.declared.steps.VertexFound.TheVariants as finds
use Rattle.laws.proofs.Picks.{clash}
use Rattle.row.proofs.Base.{same?, lt_z_true}
use Rattle.row.proofs.Steps.VertexDeeds.{Legal, Aims, not_tail}
use Rattle.laws.proofs.Rules.{eq_z_eq}
use Rattle.row.specs.Machine.Vertices.{Seen, again, passes, onward, settle, look}
use Rattle.row.specs.Lists.Store.{Cat, Inner, Good}
use Rattle.row.specs.Machine.World.{World}
use Rattle.row.specs.Machine.Moves.{VSeen, lower, found, missing, vlook}
use Rattle.promises.proofs.Showing.Shows.{Shows, vertex_tag_of}

-- A vertex's link: its mark, and where it leads. The tail's leads nowhere in the world.
record Reads (C : Catalogue) (W : World) (x : ℕ) : Type 0 where
  pub to : ℕ
  pub reads : vertex_link C x ≡ some_link to (vertex_tag_of (W.v.marked x))
  pub leads : (x ≡ 1 → ⊥) → to ≡ W.v.next x

-- what AddV and RemV see, and what is then known
pub data Looked (D : Cat) (k : ℤ) (p c : ℕ) : VertexSeen → Seen → Type 0 where
  sees_again : Looked D k p c seen.Again again
  sees_gone : Inner D p → D.next p ≡ c → c < D.used → (c ≡ 1 → ⊥) → Looked D k p c (seen.Unlinks (D.next c)) passes
  sees_lower : Looked D k p c (seen.Onward (D.next c)) onward
  sees_equal : c < D.used → (c ≡ 1 → ⊥) → eq_z (D.key c) k ≡ true → Looked D k p c (seen.Settles (D.next c) true) settle
  sees_above : (n : ℕ) → Inner D p → D.next p ≡ c → eq_z (D.key c) k ≡ false → Looked D k p c (seen.Settles n false) settle

-- what ConV, and a look for u or v, sees
pub data Sought (D : Cat) (k : ℤ) (c : ℕ) : VertexFound → VSeen → Type 0 where
  seeks_on : Sought D k c (finds.Onward (D.next c)) lower
  seeks_found : Sought D k c finds.Found found
  seeks_missing : Sought D k c finds.Missing missing

tail_link : (C : Catalogue) → vertex_link C 1 ≡ some_link 1 plain
unfolding vertex_link_in
tail_link C = refl

module _ (C : Catalogue) (W : World) (s : Shows C W) (g : Good W.v) where
  abbrev D : Cat
  D = W.v

  pub head_reads : vertex_link C 0 ≡ some_link (D.next 0) (vertex_tag_of (D.marked 0))
  head_reads = s.vlinks 0 (omega (arith, g.sound.some)) (λ e. omega arith)

  reads_at : (x : ℕ) → x < D.used → Reads C W x
  reads_at x h =
      elim (same? x 1) [
        | inl q ↦ record { to = 1; reads = tail_reads q; leads = λ d. absurd (d q) }
        | inr d ↦ record { to = D.next x; reads = s.vlinks x h d; leads = λ d. refl }
      ]
    where
      tail_reads : x ≡ 1 → vertex_link C x ≡ some_link 1 (vertex_tag_of (D.marked x))
      tail_reads q = rw (q, g.sound.tail_plain) (tail_link C)

  -- a marked vertex, and one whose key is not above k, is not the tail
  marked_inner : (c : ℕ) → D.marked c ≡ true → c ≡ 1 → ⊥
  marked_inner c m e = clash (cc (ap D.marked e, g.sound.tail_plain))

  module _ (k : ℤ) (legal : Legal k) where
    lower_inner : (c : ℕ) → lt_z (D.key c) k ≡ true → c ≡ 1 → ⊥
    lower_inner c e = not_tail D g k legal {c = c} (inl (lt_z_true (D.key c) k e))

    equal_inner : (c : ℕ) → eq_z (D.key c) k ≡ true → c ≡ 1 → ⊥
    equal_inner c e = not_tail D g k legal {c = c} (inr (eq_z_eq (D.key c) k e))

    module _ (c : ℕ) (h : c < D.used) (r : Reads C W c) where
      seeks : Sought D k c (look_for C k c) (vlook D k c)
      unfolding look_for
      seeks = rw (s.vkeys c h, r.reads) (by (lt_z (D.key c) k) (eq_z (D.key c) k) (D.marked c) refl)
        where
          by : (a b m : Bool) → lt_z (D.key c) k ≡ a
              → Sought D k c (pick a (finds.Onward r.to) (pick b (pick (eqb (vertex_tag_of m) marked) finds.Missing finds.Found) finds.Missing))
              (cond a lower (cond (b && not m) found missing))
          by true b m e = rw (r.leads (lower_inner c e)) seeks_on
          by false true true e = seeks_missing
          by false true false e = seeks_found
          by false false m e = seeks_missing

      sees : (p : ℕ) → Inner D p → D.next p ≡ c → Looked D k p c (see_vertex C k c) (cond (D.marked c) passes (cond (lt_z (D.key c) k) onward settle))
      unfolding see_vertex
      sees p i to_c = rw (r.reads, s.vkeys c h) (by (D.marked c) (lt_z (D.key c) k) (eq_z (D.key c) k) refl refl refl)
        where
          by : (m l e : Bool) → D.marked c ≡ m → lt_z (D.key c) k ≡ l → eq_z (D.key c) k ≡ e
              → Looked D k p c
              (pick (eqb (vertex_tag_of m) marked) (seen.Unlinks r.to)
              (pick l (seen.Onward r.to) (pick e (seen.Settles r.to true) (seen.Settles r.to false))))
              (cond m passes (cond l onward settle))
          by true l e x y z = rw (r.leads (marked_inner c x)) (sees_gone i to_c h (marked_inner c x))
          by false true e x y z = rw (r.leads (lower_inner c y)) sees_lower
          by false false true x y z = rw (r.leads (equal_inner c z)) (sees_equal h (equal_inner c z) z)
          by false false false x y z = sees_above r.to i to_c z

    pub sought : (c : ℕ) → c < D.used → Sought D k c (look_for C k c) (vlook D k c)
    sought c h = seeks c h (reads_at c h)

    pub looked : (p c : ℕ) → Aims D k p → Looked D k p c (look_at_vertex C k p c) (look D k p c)
    unfolding look_at_vertex
    looked p c a = rw (ne_eqb p 1 a.inner, s.vlinks p a.high a.inner) (by (eqb (D.next p) c) (D.marked p) refl refl)
      where
        by : (e m : Bool) → eqb (D.next p) c ≡ e → D.marked p ≡ m
            → Looked D k p c (pick e (pick (eqb (vertex_tag_of m) plain) (see_vertex C k c) seen.Again) seen.Again)
            (cond (e && not m) (cond (D.marked c) passes (cond (lt_z (D.key c) k) onward settle)) again)
        by true true x y = sees_again
        by true false x y =
            let to_c = eqb-true (D.next p) c x in
            let h : c < D.used = rw to_c at (g.sound.sorted.follows p a.high a.inner).inside in
            sees c h (reads_at c h) p (record { high = a.high; inner = a.inner; plain = y }) to_c
        by false m x y = sees_again
