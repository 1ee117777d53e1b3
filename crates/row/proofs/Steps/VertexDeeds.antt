-- What one step of a vertex operation does to a good list, by cases, whatever the history;
-- and that the fresh list is good.
use Prim.Native.Nat.{ℕ, ◌<◌}
use mathlib.Core.Bool.{Bool, true, false, cond, not, ◌&&◌}
use mathlib.Core.Path.{◌≡◌, refl, sym}
use mathlib.Core.Logic.{◌⊎◌, inl, inr}
use native.Mathlib.Omega.{arith}
use lib.IntN.{ℤ}
use lib.Dec.{eqb, leb}
use lib.Signed.{◌<ℤ◌, lt_z, <ℤ_irrefl, lt_z_yes}
use borrow.Author.Tests.{eqb-true}
use Rattle.laws.proofs.Picks.{clash}
use Rattle.row.proofs.Base.{same?, <ℤ-trans, lt_z_true}
use Rattle.row.proofs.Lists.LinkLaws.{gap_dead}
use Rattle.row.specs.Lists.Links.{Run, stop, go, Follows}
use Rattle.row.proofs.Lists.Hindsight.{Moves}
use Rattle.row.specs.Lists.Store.{Cat, view, insert, unlink, Inner, Gone, Stands, Step, rests, inserts, unlinks, marks, Good}
use Rattle.catalogue.specs.Tests.{eq_z}
use Rattle.catalogue.specs.Numbers.{least, greatest}
use Rattle.row.specs.Machine.Vertices.{Request, addV, remV, conV, key_of, Place, Idle, AddV, RemV, ConV, Out, going, replies, Seen, again, passes, onward, settle, look, add, rem, step, begin, fits_key, fresh, live, sequential}
use Rattle.laws.proofs.Rules.{eq_z_eq}
use Rattle.row.proofs.Graphs.LiveSet.{Present, present_live, present_yes, present_no, live_unlink, live_insert, live_mark}
use Rattle.row.proofs.Tests.{eq_z_yes, eq_z_no, not_below, and_true, not_true}

-- ---- what is known of a place

pub record Legal (k : ℤ) : Type 0 where
  pub low : least <ℤ k
  pub high : k <ℤ greatest

-- p may stand before a node of key k
pub record Aims (C : Cat) (k : ℤ) (p : ℕ) : Type 0 where
  pub high : p < C.used
  pub inner : p ≡ 1 → ⊥
  pub below : C.key p <ℤ k

abbrev pub VOk : Cat → Place → Type 0
VOk C Idle = Unit {0}
VOk C (AddV k p c) = Legal k × Aims C k p
VOk C (RemV k p c) = Legal k × Aims C k p
VOk C (ConV k c) = Legal k × (c < C.used)

abbrev pub VServes : Request → Place → Type 0
VServes q Idle = Unit {0}
VServes q (AddV k p c) = q ≡ addV k
VServes q (RemV k p c) = q ≡ remV k
VServes q (ConV k c) = q ≡ conV k

-- a place that is no walk: any but ConV's
abbrev pub Looks : Place → Type 0
Looks Idle = Unit {0}
Looks (AddV k p c) = Unit {0}
Looks (RemV k p c) = Unit {0}
Looks (ConV k c) = ⊥

pub aims_up : {C D : Cat} {k : ℤ} {p : ℕ} → Moves 0 1 (view C) (view D) → Aims C k p → Aims D k p
aims_up {p = p} m a = record { high = m.stays p a.high; inner = a.inner; below = rw (m.key_kept p a.high) a.below }

pub vok_up : (C D : Cat) → Moves 0 1 (view C) (view D) → (pl : Place) → VOk C pl → VOk D pl
vok_up C D m Idle o = tt
vok_up C D m (AddV k p c) o = (o.0, aims_up m o.1)
vok_up C D m (RemV k p c) o = (o.0, aims_up m o.1)
vok_up C D m (ConV k c) o = (o.0, m.stays c o.1)

-- ---- what a step may do

-- ConV's way to reply 2
abbrev pub Missed : Cat → ℤ → ℕ → Type 0
Missed C k c = ((C.key c ≡ k) × (C.marked c ≡ true)) ⊎ (k <ℤ C.key c)

pub data VDid (C : Cat) (q : Request) (pl : Place) : Out → Type 0 where
  -- goes on
  on : {D : Cat} (to : Place) → Step C D → live D ≡ live C → VOk D to → VServes q to → Looks to → VDid C q pl (going D to)
  -- replies, and does just now what the call does alone
  now : {D : Cat} (r : ℕ) → (r ≡ 1) ⊎ (r ≡ 2) → Step C D → sequential (live C) q ≡ (r, live D) → VDid C q pl (replies D r)
  full : VDid C q pl (replies C 9)
  walks : (k : ℤ) (c : ℕ) → pl ≡ ConV k c → q ≡ conV k → C.key c <ℤ k → (c ≡ 1 → ⊥) → VOk C (ConV k (C.next c)) → VDid C q pl (going C (ConV k (C.next c)))
  missed : (k : ℤ) (c : ℕ) → pl ≡ ConV k c → q ≡ conV k → Missed C k c → VDid C q pl (replies C 2)

-- ---- a look

pub record Leads (C : Cat) (p c : ℕ) : Type 0 where
  pub leads : C.next p ≡ c
  pub plain : C.marked p ≡ false

pub data Means (C : Cat) (k : ℤ) (p c : ℕ) : Seen → Type 0 where
  m_again : Means C k p c again
  m_passes : Leads C p c → C.marked c ≡ true → Means C k p c passes
  m_onward : Leads C p c → C.marked c ≡ false → C.key c <ℤ k → Means C k p c onward
  m_settle : Leads C p c → C.marked c ≡ false → (C.key c ≡ k) ⊎ (k <ℤ C.key c) → Means C k p c settle

pub means : (C : Cat) (k : ℤ) (p c : ℕ) → Means C k p c (look C k p c)
means C k p c = by (eqb (C.next p) c && not (C.marked p)) (C.marked c) (lt_z (C.key c) k) refl refl refl
  where
    leads' : (eqb (C.next p) c && not (C.marked p)) ≡ true → Leads C p c
    leads' e =
        let z = and_true (eqb (C.next p) c) (not (C.marked p)) e in
        record { leads = eqb-true (C.next p) c z.0; plain = not_true (C.marked p) z.1 }

    by : (a b d : Bool) → (eqb (C.next p) c && not (C.marked p)) ≡ a → C.marked c ≡ b → lt_z (C.key c) k ≡ d
        → Means C k p c (cond a (cond b passes (cond d onward settle)) again)
    by false b d e f g = m_again
    by true true d e f g = m_passes (leads' e) f
    by true false true e f g = m_onward (leads' e) f (lt_z_true (C.key c) k g)
    by true false false e f g = m_settle (leads' e) f (not_below (C.key c) k g)

module _ (C : Cat) (g : Good C) (k : ℤ) (l : Legal k) where
  from_head : Aims C k 0
  from_head = record { high = omega (arith, g.sound.some); inner = λ e. omega arith; below = rw g.key_head l.low }

  inner_of : {p c : ℕ} → Aims C k p → Leads C p c → Inner C p
  inner_of a w = record { high = a.high; inner = a.inner; plain = w.plain }

  -- c's key is not above k, so c is not the tail
  pub not_tail : {c : ℕ} → (C.key c <ℤ k) ⊎ (C.key c ≡ k) → c ≡ 1 → ⊥
  not_tail (inl h) e = <ℤ_irrefl (<ℤ-trans l.high (rw (e, g.key_tail) at h))
  not_tail (inr h) e = <ℤ_irrefl {a = k} (rw (← h, e, g.key_tail) (rw (← h, e, g.key_tail) at l.high))

  pub not_head : {c : ℕ} → C.key c ≡ k → c ≡ 0 → ⊥
  not_head h e = <ℤ_irrefl {a = k} (rw (← g.key_head, ← e, h) at l.low)

  c_in : {p c : ℕ} → Aims C k p → Leads C p c → c < C.used
  c_in {p} a w = rw w.leads at (g.sound.sorted.follows p a.high a.inner).inside

  stands : {p c : ℕ} → Aims C k p → Leads C p c → C.marked c ≡ false → C.key c ≡ k → Stands C c
  stands {p} {c} a w u e =
      let n = not_tail {c = c} (inr e) in let m = not_head {c = c} e in
      record { low = omega arith; high = c_in a w; plain = u }

  present : {p c : ℕ} → Aims C k p → Leads C p c → C.marked c ≡ false → C.key c ≡ k → Present C k
  present a w u e = let z = stands a w u e in record { node = _; low = z.low; high = z.high; plain = z.plain; holds = e }

  -- nothing between p and c
  pub absent : {p c : ℕ} → Aims C k p → Leads C p c → k <ℤ C.key c → live C k ≡ false
  absent {p} {c} a w h =
      present_no C k (λ v. gap_dead 0 1 (view C) g.sound.sorted
      (g.sound.sorted.linked p a.high w.plain) a.below (rw w.leads h) a.inner (present_live v))

  gone : {p c : ℕ} → Aims C k p → Leads C p c → C.marked c ≡ true → Gone C p
  gone a w m = record { inside = inner_of a w; gone = rw w.leads m }

  apart : {c : ℕ} → k <ℤ C.key c → C.key c ≡ k → ⊥
  apart h e = <ℤ_irrefl {a = k} (rw e at h)

  passed : {p : ℕ} → Aims C k p → Aims (unlink C p) k p
  passed a = record { high = a.high; inner = a.inner; below = a.below }

  moved : {p c : ℕ} → Aims C k p → Leads C p c → C.key c <ℤ k → Aims C k c
  moved {c = c} a w h = record { high = c_in a w; inner = not_tail {c = c} (inl h); below = h }

  add_did : (p c : ℕ) → Aims C k p → (q : Request) → q ≡ addV k → (pl : Place) → (z : Seen) → Means C k p c z → VDid C q pl (add C k p c z)
  add_did p c a q e pl again m_again = on (AddV k 0 (C.next 0)) rests refl (l, from_head) e tt
  add_did p c a q e pl passes (m_passes w m) = on (AddV k p (C.next c)) (unlinks p (gone a w m)) (live_unlink C p) (l, passed a) e tt
  add_did p c a q e pl onward (m_onward w u h) = on (AddV k c (C.next c)) rests refl (l, moved a w h) e tt
  add_did p c a q e pl settle (m_settle w u (inl h)) =
      rw (eq_z_yes (C.key c) k h) (now 2 (inr refl) rests (rw (e, present_yes (present a w u h))))
  add_did p c a q e pl settle (m_settle w u (inr h)) = rw (eq_z_no (C.key c) k (apart h)) (by (leb 256 C.used))
    where
      by : (b : Bool) → VDid C q pl (cond b (replies C 9) (replies (insert C p k) 1))
      by true = full
      by false =
          now 1 (inl refl) (inserts p k (record { inside = inner_of a w; below = a.below; above = rw w.leads h }))
          (rw (e, absent a w h, live_insert C p k g.sound))

  rem_did : (p c : ℕ) → Aims C k p → (q : Request) → q ≡ remV k → (pl : Place) → (z : Seen) → Means C k p c z → VDid C q pl (rem C k p c z)
  rem_did p c a q e pl again m_again = on (RemV k 0 (C.next 0)) rests refl (l, from_head) e tt
  rem_did p c a q e pl passes (m_passes w m) = on (RemV k p (C.next c)) (unlinks p (gone a w m)) (live_unlink C p) (l, passed a) e tt
  rem_did p c a q e pl onward (m_onward w u h) = on (RemV k c (C.next c)) rests refl (l, moved a w h) e tt
  rem_did p c a q e pl settle (m_settle w u (inl h)) =
      rw (eq_z_yes (C.key c) k h)
      (now 1 (inl refl) (marks c (stands a w u h)) (rw (e, present_yes (present a w u h), live_mark C c g.sound (stands a w u h), h)))
  rem_did p c a q e pl settle (m_settle w u (inr h)) =
      rw (eq_z_no (C.key c) k (apart h)) (now 2 (inr refl) rests (rw (e, absent a w h)))

  -- ConV: a key that is there now is found now
  con_did : (c : ℕ) → c < C.used → (q : Request) → q ≡ conV k → VDid C q (ConV k c) (step C (ConV k c))
  con_did c i q e = by (lt_z (C.key c) k) (eq_z (C.key c) k) (C.marked c) refl refl refl
    where
      by : (x y z : Bool) → lt_z (C.key c) k ≡ x → eq_z (C.key c) k ≡ y → C.marked c ≡ z
          → VDid C q (ConV k c) (cond x (going C (ConV k (C.next c))) (cond (y && not z) (replies C 1) (replies C 2)))
      by true y z f h m =
          let j = lt_z_true (C.key c) k f in
          let n = not_tail {c = c} (inl j) in
          walks k c refl e j n (l, (g.sound.sorted.follows c i n).inside)
      by false true true f h m = missed k c refl e (inl (eq_z_eq (C.key c) k h, m))
      by false true false f h m =
          let j = eq_z_eq (C.key c) k h in
          let n = not_tail {c = c} (inr j) in
          let d = not_head {c = c} j in
          let v : Present C k = record { node = c; low = omega arith; high = i; plain = m; holds = j } in
          now 1 (inl refl) rests (rw (e, present_yes v))
      by false false z f h m =
          missed k c refl e (elim (not_below (C.key c) k f) [ inl j ↦ clash (cc (eq_z_yes (C.key c) k j)) | inr j ↦ inr j ])

pub vdid : (C : Cat) → Good C → (q : Request) (pl : Place) → VOk C pl → VServes q pl → VDid C q pl (step C pl)
vdid C g q Idle o v = on Idle rests refl tt tt tt
vdid C g q (AddV k p c) o v = add_did C g k o.0 p c o.1 q v (AddV k p c) (look C k p c) (means C k p c)
vdid C g q (RemV k p c) o v = rem_did C g k o.0 p c o.1 q v (RemV k p c) (look C k p c) (means C k p c)
vdid C g q (ConV k c) o v = con_did C g k o.0 c o.1 q v

-- taking up
pub begin_ok : (C : Cat) → Good C → (q : Request) → Legal (key_of q) → VOk C (begin C q)
begin_ok C g (addV k) l = (l, from_head C g k l)
begin_ok C g (remV k) l = (l, from_head C g k l)
begin_ok C g (conV k) l = (l, (g.sound.sorted.follows 0 (omega (arith, g.sound.some)) (λ e. omega arith)).inside)

-- the request of a place
pub wants : (pl : Place) → (q : Request) × VServes q pl
wants Idle = (conV least, tt)
wants (AddV k p c) = (addV k, refl)
wants (RemV k p c) = (remV k, refl)
wants (ConV k c) = (conV k, refl)

pub fits_is : (k : ℤ) → fits_key k ≡ true → Legal k
fits_is k e =
    let z = and_true (lt_z least k) (lt_z k greatest) e in
    record { low = lt_z_true least k z.0; high = lt_z_true k greatest z.1 }

pub fresh_good : Good fresh
fresh_good = record {
  sound = record {
    some = omega arith;
    sorted = record { head_in = omega arith; follows = next_ok; linked = reached };
    head_plain = refl;
    tail_plain = refl;
  };
  key_head = refl;
  key_tail = refl;
}
  where
    next_ok : (x : ℕ) → x < 2 → (x ≡ 1 → ⊥) → Follows (view fresh) x (fresh.next x)
    next_ok x h n = let e : x ≡ 0 = omega arith in rw e (record { inside = omega arith; above = lt_z_yes tt })

    reached : (x : ℕ) → x < 2 → false ≡ false → Run fresh.next 1 x 0
    reached x h u = elim (same? x 0) [ inl e ↦ stop (sym e) | inr n ↦ go {a = 0} (λ e. omega arith) (stop {a = 1} (omega arith)) ]
