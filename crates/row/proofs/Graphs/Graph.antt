-- The live graph of a world: when an edge is in it, and which node it is.
use Prim.Native.Nat.{ℕ, zero, suc, ◌≤◌, ◌<◌}
use mathlib.Core.Bool.{Bool, true, false, cond, not, ◌&&◌}
use mathlib.Core.Path.{◌≡◌, refl, sym, ◌∙◌}
use mathlib.Core.Logic.{inl, inr}
use native.Mathlib.Omega.{arith}
use lib.IntN.{ℤ}
use lib.Dec.{leb}
use borrow.Author.Tests.{leb-true, le-leb}
use Rattle.laws.proofs.Picks.{clash}
use Rattle.row.proofs.Base.{same?}
use Rattle.row.proofs.Lists.LinkLaws.{unique}
use Rattle.row.specs.Lists.Links.{Live}
use Rattle.row.specs.Lists.Store.{Cat, view}
use Rattle.catalogue.specs.Tests.{eq_z}
use Rattle.laws.proofs.Rules.{eq_z_eq}
use Rattle.row.proofs.Tests.{eq_z_yes, and_true, not_true, cond_or, bool_iff}
use Rattle.row.specs.Lists.Edges.{Tag, marked, transit, added, head, at, is_marked, InList, eview}
use Rattle.row.specs.Machine.World.{World, is_added, is_edge, has_edge, edges}
use Rattle.row.proofs.Graphs.Good.{WGood}

pub record PresentE (W : World) (k l : ℤ) : Type 0 where
  pub node : ℕ
  pub low : 1 ≤ node
  pub high : node < W.e.used
  pub is : W.e.tag node ≡ added
  pub source : W.v.marked (W.e.owner node) ≡ false
  pub goal : W.v.marked (W.e.target node) ≡ false
  pub leaves : W.v.key (W.e.owner node) ≡ k
  pub comes : W.e.key node ≡ l

pub added_is : (t : Tag) → is_added t ≡ true → t ≡ added
added_is marked e = clash (cc)
added_is transit e = clash (cc)
added_is added e = refl

pub added_plain : (t : Tag) → t ≡ added → is_marked t ≡ false
added_plain t e = rw e

module _ (vm : ℕ → Bool) (vk : ℕ → ℤ) (tag : ℕ → Tag) (owner target : ℕ → ℕ) (ek : ℕ → ℤ) (k l : ℤ) where
  record Edge (x : ℕ) : Type 0 where
    low : 1 ≤ x
    is : tag x ≡ added
    source : vm (owner x) ≡ false
    goal : vm (target x) ≡ false
    leaves : vk (owner x) ≡ k
    comes : ek x ≡ l

  edge_is : (x : ℕ) → Edge x → is_edge vm vk tag owner target ek k l x ≡ true
  edge_is x p = rw (le-leb 1 x p.low, p.is, p.source, p.goal, eq_z_yes (vk (owner x)) k p.leaves, eq_z_yes (ek x) l p.comes)

  is_there : (x : ℕ) → is_edge vm vk tag owner target ek k l x ≡ true → Edge x
  is_there x e =
      let a = and_true (leb 1 x) (is_added (tag x) && (not (vm (owner x)) && (not (vm (target x)) && (eq_z (vk (owner x)) k && eq_z (ek x) l)))) e in
      let b = and_true (is_added (tag x)) (not (vm (owner x)) && (not (vm (target x)) && (eq_z (vk (owner x)) k && eq_z (ek x) l))) a.1 in
      let c = and_true (not (vm (owner x))) (not (vm (target x)) && (eq_z (vk (owner x)) k && eq_z (ek x) l)) b.1 in
      let d = and_true (not (vm (target x))) (eq_z (vk (owner x)) k && eq_z (ek x) l) c.1 in
      let f = and_true (eq_z (vk (owner x)) k) (eq_z (ek x) l) d.1 in
      record {
        low = leb-true 1 x a.0;
        is = added_is (tag x) b.0;
        source = not_true (vm (owner x)) c.0;
        goal = not_true (vm (target x)) d.0;
        leaves = eq_z_eq (vk (owner x)) k f.0;
        comes = eq_z_eq (ek x) l f.1;
      }

  has_yes : (n x : ℕ) → x < n → Edge x → has_edge vm vk tag owner target ek k l n ≡ true
  unfolding has_edge
  has_yes zero x h e = absurd (omega arith)
  has_yes (suc n) x h e =
      elim (same? x n) [
        | inl q ↦ let z : Edge n = rw q at e in rw (edge_is n z)
        | inr d ↦ cond_or (is_edge vm vk tag owner target ek k l n) (has_edge vm vk tag owner target ek k l n) (has_yes n x (omega arith) e)
      ]

  has_found : (n : ℕ) → has_edge vm vk tag owner target ek k l n ≡ true → (x : ℕ) × (x < n) × Edge x
  unfolding has_edge
  has_found zero e = clash (cc)
  has_found (suc n) e = by (is_edge vm vk tag owner target ek k l n) refl (λ f. has_found n f) e
    where
      by : (t : Bool) → is_edge vm vk tag owner target ek k l n ≡ t
          → (has_edge vm vk tag owner target ek k l n ≡ true → (x : ℕ) × (x < n) × Edge x)
          → cond t true (has_edge vm vk tag owner target ek k l n) ≡ true → (x : ℕ) × (x < suc n) × Edge x
      by true f g e = (n, omega arith, is_there n f)
      by false f g e = let z = g e in (z.0, omega arith, z.2)

pub edge_yes : (W : World) (k l : ℤ) → PresentE W k l → edges W k l ≡ true
edge_yes W k l p =
    has_yes W.v.marked W.v.key W.e.tag W.e.owner W.e.target W.e.key k l W.e.used p.node p.high
    (record { low = p.low; is = p.is; source = p.source; goal = p.goal; leaves = p.leaves; comes = p.comes })

pub yes_edge : (W : World) (k l : ℤ) → edges W k l ≡ true → PresentE W k l
yes_edge W k l e =
    let z = has_found W.v.marked W.v.key W.e.tag W.e.owner W.e.target W.e.key k l W.e.used e in
    let p = z.2 in
    record { node = z.0; low = p.low; high = z.1; is = p.is; source = p.source; goal = p.goal; leaves = p.leaves; comes = p.comes }

pub edge_no : (W : World) (k l : ℤ) → (PresentE W k l → ⊥) → edges W k l ≡ false
edge_no W k l n = by (edges W k l) refl
  where
    by : (t : Bool) → edges W k l ≡ t → edges W k l ≡ false
    by true e = absurd (n (yes_edge W k l e))
    by false e = e

pub same_at : (W X : World) (k l : ℤ) → (PresentE W k l → PresentE X k l) → (PresentE X k l → PresentE W k l) → edges W k l ≡ edges X k l
same_at W X k l f g = bool_iff (edges W k l) (edges X k l) (λ e. edge_yes X k l (f (yes_edge W k l e))) (λ e. edge_yes W k l (g (yes_edge X k l e)))

-- u is a vertex of key k
pub record IsV (C : Cat) (k : ℤ) (u : ℕ) : Type 0 where
  pub low : 2 ≤ u
  pub high : u < C.used
  pub holds : C.key u ≡ k

module _ (W : World) (g : WGood W) where
  pub vunique : (k : ℤ) (x y : ℕ) → x < W.v.used → y < W.v.used → W.v.marked x ≡ false → W.v.marked y ≡ false → W.v.key x ≡ W.v.key y → x ≡ y
  vunique k x y h i m n e =
      let s = g.good.sound.sorted in
      unique 0 1 (view W.v) s (s.linked x h m) (s.linked y i n) e

  pub owner_is : {k l : ℤ} (u : ℕ) → IsV W.v k u → W.v.marked u ≡ false → (p : PresentE W k l) → W.e.owner p.node ≡ u
  owner_is {k} u i m p =
      vunique k (W.e.owner p.node) u (g.ends p.node p.low p.high).source_high i.high p.source m (p.leaves ∙ sym i.holds)

  -- so it stands in u's list
  pub listed : {k l : ℤ} (u : ℕ) → IsV W.v k u → W.v.marked u ≡ false → PresentE W k l → Live (eview W.e u) l
  listed u i m p = record {
    node = at p.node;
    inside = inr (record { low = p.low; high = p.high; own = owner_is u i m p });
    plain = added_plain (W.e.tag p.node) p.is;
    has = p.comes;
  }

  pub eunique : (u x y : ℕ) → InList W.e u x → InList W.e u y → is_marked (W.e.tag x) ≡ false → is_marked (W.e.tag y) ≡ false → W.e.key x ≡ W.e.key y → x ≡ y
  eunique u x y i j m n e =
      let s = g.esound.sorted u in
      let z : at x ≡ at y = unique head (at 0) (eview W.e u) s (s.linked (at x) (inr i) m) (s.linked (at y) (inr j) n) e in
      cc

  -- the only candidate for (k, l) is an unmarked node of u's list with that key
  pub edge_is_c : {k l : ℤ} (u c : ℕ) → IsV W.v k u → W.v.marked u ≡ false → InList W.e u c → is_marked (W.e.tag c) ≡ false → W.e.key c ≡ l
      → (p : PresentE W k l) → p.node ≡ c
  edge_is_c u c i m j n e p =
      eunique u p.node c (record { low = p.low; high = p.high; own = owner_is u i m p }) j (added_plain (W.e.tag p.node) p.is) n (p.comes ∙ sym e)
