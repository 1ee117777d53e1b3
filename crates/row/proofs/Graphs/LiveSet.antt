-- The live set: when a key is in it, and what each change of the vertex list does to it.
use Prim.Native.Nat.{ℕ, zero, suc, ◌≤◌, ◌<◌}
use mathlib.Core.Bool.{Bool, true, false, cond, not, ◌&&◌}
use mathlib.Core.Path.{◌≡◌, refl, sym, ap, ◌∙◌, fun_ext}
use mathlib.Core.Logic.{inl, inr}
use native.Mathlib.Omega.{arith}
use lib.IntN.{ℤ}
use lib.Dec.{leb}
use borrow.Author.Tests.{leb-true, le-leb}
use Rattle.laws.proofs.Rules.{eq_z_eq}
use Rattle.laws.proofs.Picks.{clash}
use Rattle.row.proofs.Base.{upd_at, upd_other, upds, same?}
use Rattle.row.proofs.Tests.{eq_z_yes, eq_z_no, same_key?, and_true, not_true, cond_or, bool_iff}
use Rattle.row.proofs.Lists.LinkLaws.{unique}
use Rattle.row.specs.Lists.Links.{Live}
use Rattle.row.specs.Lists.Store.{Cat, view, insert, unlink, mark, Stands, Sound}
use Rattle.catalogue.specs.Tests.{eq_z}
use Rattle.row.specs.Machine.Vertices.{is_live, has, live, put}

-- ---- in the live set

pub record Present (C : Cat) (k : ℤ) : Type 0 where
  pub node : ℕ
  pub low : 2 ≤ node
  pub high : node < C.used
  pub plain : C.marked node ≡ false
  pub holds : C.key node ≡ k

pub present_live : {C : Cat} {k : ℤ} → Present C k → Live (view C) k
present_live p = record { node = p.node; inside = p.high; plain = p.plain; has = p.holds }

live_yes : (C : Cat) (k : ℤ) (x : ℕ) → 2 ≤ x → C.marked x ≡ false → C.key x ≡ k → is_live C.marked C.key k x ≡ true
live_yes C k x l u e = rw (le-leb 2 x l, u, eq_z_yes (C.key x) k e)

has_yes : (C : Cat) (k : ℤ) (n x : ℕ) → x < n → is_live C.marked C.key k x ≡ true → has C.marked C.key k n ≡ true
unfolding has
has_yes C k zero x h e = absurd (omega arith)
has_yes C k (suc n) x h e =
    elim (same? x n) [
      | inl q ↦ let z : is_live C.marked C.key k n ≡ true = rw q at e in rw z
      | inr d ↦ cond_or (is_live C.marked C.key k n) (has C.marked C.key k n) (has_yes C k n x (omega arith) e)
    ]

has_found : (C : Cat) (k : ℤ) (n : ℕ) → n ≤ C.used → has C.marked C.key k n ≡ true → Present C k
unfolding has
has_found C k zero h e = clash (cc)
has_found C k (suc n) h e = by (is_live C.marked C.key k n) refl (λ f. has_found C k n (omega arith) f) e
  where
    by : (t : Bool) → is_live C.marked C.key k n ≡ t → (has C.marked C.key k n ≡ true → Present C k) → cond t true (has C.marked C.key k n) ≡ true → Present C k
    by true f g e =
        let p = and_true (leb 2 n) (not (C.marked n) && eq_z (C.key n) k) f in
        let q = and_true (not (C.marked n)) (eq_z (C.key n) k) p.1 in
        record { node = n; low = leb-true 2 n p.0; high = h; plain = not_true (C.marked n) q.0; holds = eq_z_eq (C.key n) k q.1 }
    by false f g e = g e

pub present_yes : {C : Cat} {k : ℤ} → Present C k → live C k ≡ true
present_yes {C} {k} p = has_yes C k C.used p.node p.high (live_yes C k p.node p.low p.plain p.holds)

pub yes_present : (C : Cat) (k : ℤ) → live C k ≡ true → Present C k
yes_present C k e = has_found C k C.used (omega arith) e

pub present_no : (C : Cat) (k : ℤ) → (Present C k → ⊥) → live C k ≡ false
present_no C k n = by (live C k) refl
  where
    by : (t : Bool) → live C k ≡ t → live C k ≡ false
    by true e = absurd (n (yes_present C k e))
    by false e = e

same_at : (C D : Cat) (k : ℤ) → (Present C k → Present D k) → (Present D k → Present C k) → live C k ≡ live D k
same_at C D k f g = bool_iff (live C k) (live D k) (λ e. present_yes (f (yes_present C k e))) (λ e. present_yes (g (yes_present D k e)))

-- ---- the changes

pub live_unlink : (C : Cat) (p : ℕ) → live (unlink C p) ≡ live C
live_unlink C p = refl

pub live_insert : (C : Cat) (p : ℕ) (k : ℤ) → Sound C → live (insert C p k) ≡ put (live C) k true
live_insert C p k s =
    fun_ext (λ j.
    elim (same_key? j k) [
      | inl q ↦
          let b = s.some in
          rw (eq_z_yes j k q) (present_yes {C = insert C p k} (record { node = C.used; low = b; high = omega arith; plain = search upds; holds = search (upds, ← q) }))
      | inr n ↦ rw (eq_z_no j k n) (same_at (insert C p k) C j (down j n) (up j))
    ])
  where
    up : (j : ℤ) → Present C j → Present (insert C p k) j
    up j v = let h = v.high in record { node = v.node; low = v.low; high = omega arith; plain = search (upds, v.plain); holds = search (upds, v.holds) }

    down : (j : ℤ) → (j ≡ k → ⊥) → Present (insert C p k) j → Present C j
    down j n v =
        elim (same? v.node C.used) [
          | inl q ↦ absurd (n (sym v.holds ∙ upd_at C.key C.used k v.node q))
          | inr d ↦ record {
            node = v.node;
            low = v.low;
            high = omega (arith, v.high);
            plain = sym (upd_other _ _ _ _ d) ∙ v.plain;
            holds = sym (upd_other _ _ _ _ d) ∙ v.holds;
          }
        ]

pub live_mark : (C : Cat) (x : ℕ) → Sound C → Stands C x → live (mark C x) ≡ put (live C) (C.key x) false
live_mark C x s w =
    fun_ext (λ j.
    elim (same_key? j (C.key x)) [
      | inl q ↦ rw (eq_z_yes j (C.key x) q) (present_no (mark C x) j (gone j q))
      | inr n ↦ rw (eq_z_no j (C.key x) n) (same_at (mark C x) C j (down j) (up j n))
    ])
  where
    down : (j : ℤ) → Present (mark C x) j → Present C j
    down j v =
        elim (same? v.node x) [
          | inl q ↦ clash (cc (v.plain, upd_at C.marked x true v.node q))
          | inr d ↦ record { node = v.node; low = v.low; high = v.high; plain = sym (upd_other _ _ _ _ d) ∙ v.plain; holds = v.holds }
        ]

    up : (j : ℤ) → (j ≡ C.key x → ⊥) → Present C j → Present (mark C x) j
    up j n v =
        elim (same? v.node x) [
          | inl q ↦ absurd (n (sym v.holds ∙ ap C.key q))
          | inr d ↦ record { node = v.node; low = v.low; high = v.high; plain = upd_other _ _ _ _ d ∙ v.plain; holds = v.holds }
        ]

    gone : (j : ℤ) → j ≡ C.key x → Present (mark C x) j → ⊥
    gone j q v =
        elim (same? v.node x) [
          | inl z ↦ clash (cc (v.plain, upd_at C.marked x true v.node z))
          | inr d ↦
              let u : C.marked v.node ≡ false = sym (upd_other _ _ _ _ d) ∙ v.plain in
              d (unique 0 1 (view C) s.sorted (s.sorted.linked v.node v.high u) (s.sorted.linked x w.high w.plain) (v.holds ∙ q))
        ]
