-- Hindsight: what a walker that passed over a list in the course of time may say of moments in the past.
use Prim.Native.Nat.{ℕ, zero, suc, ◌≤◌, ◌<◌}
use mathlib.Core.Bool.{Bool, true, false}
use mathlib.Core.Path.{◌≡◌, refl, sym, ◌∙◌}
use mathlib.Core.Logic.{◌⊎◌, inl, inr}
use native.Mathlib.Omega.{arith}
use lib.IntN.{ℤ}
use lib.Signed.{◌<ℤ◌}
use Rattle.laws.proofs.Picks.{clash}
use Rattle.row.proofs.Base.{same?}
use Rattle.row.proofs.Lists.LinkLaws.{run_trans, reached_in, gap_dead, marked_dead}
use Rattle.row.specs.Lists.Links.{Run, stop, go, View, Reached, Sorted, Live}

-- what one event does to a list, as far as hindsight goes
pub record Moves {N : Type 0} (hd tl : N) (C D : View N) : Type 0 where
  pub stays : (x : N) → C.mine x → D.mine x
  pub key_kept : (x : N) → C.mine x → D.key x ≡ C.key x
  pub mark_kept : (x : N) → C.mine x → C.marked x ≡ true → D.marked x ≡ true
  -- only an unmarked node's link is turned, and that does not mark it
  pub link_kept : (x : N) → C.mine x → (x ≡ tl → ⊥) → (D.next x ≡ C.next x) ⊎ (D.marked x ≡ false)
  -- marking unlinks nothing
  pub marks_linked : (x : N) → C.mine x → C.marked x ≡ false → D.marked x ≡ true → Reached hd tl D x
  -- from anywhere, what is still unmarked is still ahead
  pub runs_kept : (x y : N) → C.mine x → Run C.next tl y x → D.marked y ≡ false → Run D.next tl y x

-- so what is unmarked was unmarked
pub plain_down : {N : Type 0} {hd tl : N} {C D : View N} (m : Moves hd tl C D) (x : N) → C.mine x → D.marked x ≡ false → C.marked x ≡ false
plain_down {C = C} m x i e = by (C.marked x) refl
  where
    by : (b : Bool) → C.marked x ≡ b → C.marked x ≡ false
    by true f = clash (cc (m.mark_kept x i f))
    by false f = f

-- what each event keeps holds at the end
pub climb : (P : ℕ → Type 0) (t n : ℕ) → t ≤ n → ((i : ℕ) → t ≤ i → i < n → P i → P (suc i)) → P t → P n
climb P t zero h f p = let e : t ≡ 0 = omega arith in rw e at p
climb P t (suc n) h f p =
    elim (same? t (suc n)) [
      | inl e ↦ rw e at p
      | inr d ↦ f n (omega arith) (omega arith) (climb P t n (omega arith) (λ i l m. f i l (omega arith)) p)
    ]

module _ {N : Type 0} (hd tl : N) (S : ℕ → View N) (s : (t : ℕ) → Sorted hd tl (S t)) where
  abbrev pub Span : ℕ → ℕ → Type 0
  Span a n = (i : ℕ) → a ≤ i → i < n → Moves hd tl (S i) (S (suc i))

  abbrev pub At : ℕ → N → Type 0
  At t x = Reached hd tl (S t) x

  -- a moment in [a, n] at which k was not live
  pub record Dead (a n : ℕ) (k : ℤ) : Type 0 where
    pub when : ℕ
    pub low : a ≤ when
    pub high : when ≤ n
    pub dead : Live (S when) k → ⊥

  module _ (a n : ℕ) (m : Span a n) where
    record Same (t i : ℕ) (x : N) : Type 0 where
      inside : (S i).mine x
      key_same : (S i).key x ≡ (S t).key x

    same : (t i : ℕ) (x : N) → a ≤ t → t ≤ i → i ≤ n → (S t).mine x → Same t i x
    same t i x l h k w =
        climb (λ i. Same t i x) t i h
        (λ j p q z. let v = m j (omega arith) (omega arith) in
        record { inside = v.stays x z.inside; key_same = v.key_kept x z.inside ∙ z.key_same })
        (record { inside = w; key_same = refl })

    pub stays_in : (t i : ℕ) (x : N) → a ≤ t → t ≤ i → i ≤ n → (S t).mine x → (S i).mine x
    stays_in t i x l h k w = (same t i x l h k w).inside

    pub key_stays : (t i : ℕ) (x : N) → a ≤ t → t ≤ i → i ≤ n → (S t).mine x → (S i).key x ≡ (S t).key x
    key_stays t i x l h k w = (same t i x l h k w).key_same

    -- a node unmarked at the end was unmarked all the time
    pub plain_before : (t : ℕ) (x : N) → a ≤ t → t ≤ n → (S t).mine x → (S n).marked x ≡ false → (S t).marked x ≡ false
    plain_before t x l h w e = by ((S t).marked x) refl
      where
        still : (S t).marked x ≡ true → (S n).marked x ≡ true
        still f =
            climb (λ i. (S i).marked x ≡ true) t n h
            (λ i p q z. (m i (omega arith) q).mark_kept x (same t i x l p (omega arith) w).inside z) f

        by : (b : Bool) → (S t).marked x ≡ b → (S t).marked x ≡ false
        by true f = clash (cc (still f))
        by false f = f

    -- hindsight: wherever a node that was reached leads now, it led there at a moment since at which it was reached
    pub record Past (t : ℕ) (x : N) : Type 0 where
      pub when : ℕ
      pub low : t ≤ when
      pub high : when ≤ n
      pub reached : At when x
      pub link : (S when).next x ≡ (S n).next x

    abbrev PastAt : ℕ → N → ℕ → Type 0
    PastAt t x i = (u : ℕ) × (t ≤ u) × (u ≤ i) × At u x × ((S u).next x ≡ (S i).next x)

    pub hindsight : (t : ℕ) (x : N) → a ≤ t → t ≤ n → (x ≡ tl → ⊥) → At t x → Past t x
    hindsight t x l h d r =
        let z = climb (PastAt t x) t n h step (t, omega arith, omega arith, r, refl) in
        record { when = z.0; low = z.1; high = z.2; reached = z.3; link = z.4 }
      where
        step : (i : ℕ) → t ≤ i → i < n → PastAt t x i → PastAt t x (suc i)
        step i p q z =
            let w = (same t i x l p (omega arith) (reached_in hd tl (S t) (s t) r)).inside in
            let v = m i (omega arith) q in
            elim (v.link_kept x w d) [
              | inl e ↦ (z.0, z.1, omega arith, z.3, z.4 ∙ sym e)
              | inr e ↦ (suc i, omega arith, omega arith, (s (suc i)).linked x (v.stays x w) e, refl)
            ]

    -- a node unmarked at t and marked at n was marked by an event in between; right after it its key is not live
    pub record Marked (t : ℕ) (x : N) : Type 0 where
      pub event : ℕ
      pub low : t ≤ event
      pub high : event < n
      pub plain : (S event).marked x ≡ false
      pub marks : (S (suc event)).marked x ≡ true
      pub dead : Live (S (suc event)) ((S t).key x) → ⊥

    abbrev MarkedBy : ℕ → N → ℕ → Type 0
    MarkedBy t x i = ((S i).marked x ≡ false) ⊎ ((e : ℕ) × (t ≤ e) × (e < i) × ((S e).marked x ≡ false) × ((S (suc e)).marked x ≡ true) × (Live (S (suc e)) ((S t).key x) → ⊥))

    pub marked_between : (t : ℕ) (x : N) → a ≤ t → t ≤ n → (S t).mine x → (S t).marked x ≡ false → (S n).marked x ≡ true → Marked t x
    marked_between t x l h w u v =
        elim (climb (MarkedBy t x) t n h step (inl u)) [
          | inl e ↦ clash (cc)
          | inr z ↦ record { event = z.0; low = z.1; high = z.2; plain = z.3; marks = z.4; dead = z.5 }
        ]
      where
        now : (i : ℕ) → t ≤ i → i < n → (S i).marked x ≡ false → (b : Bool) → (S (suc i)).marked x ≡ b → MarkedBy t x (suc i)
        now i p q e false f = inl f
        now i p q e true f =
            let g = same t i x l p (omega arith) w in
            let y = m i (omega arith) q in
            let r : At (suc i) x = y.marks_linked x g.inside e f in
            let j : (S (suc i)).key x ≡ (S t).key x = y.key_kept x g.inside ∙ g.key_same in
            inr (i, p, omega arith, e, f, rw j at (marked_dead hd tl (S (suc i)) (s (suc i)) r f))

        step : (i : ℕ) → t ≤ i → i < n → MarkedBy t x i → MarkedBy t x (suc i)
        step i p q (inl e) = now i p q e ((S (suc i)).marked x) refl
        step i p q (inr z) = inr (z.0, z.1, omega arith, z.3, z.4, z.5)

  -- the walker for key k stands at c; it began after event a, and n events are done
  pub record Standing (a n : ℕ) (k : ℤ) (c : N) : Type 0 where
    pub when : ℕ
    pub low : a ≤ when
    pub high : when ≤ n
    pub behind : N
    pub reached : At when behind
    pub inner : behind ≡ tl → ⊥
    pub below : (S when).key behind <ℤ k
    pub leads : (S when).next behind ≡ c

  pub stand_wait : {a n : ℕ} {k : ℤ} {c : N} → Standing a n k c → Standing a (suc n) k c
  stand_wait w = record { when = w.when; low = w.low; high = omega arith; behind = w.behind; reached = w.reached; inner = w.inner; below = w.below; leads = w.leads }

  module _ {a n : ℕ} (m : Span a n) where
    -- where it stands was reached then, and has the same key now
    stood : {k : ℤ} {c : N} (w : Standing a n k c) → At w.when c
    stood {c = c} w = run_trans w.reached (go {a = w.behind} w.inner (stop w.leads))

    stood_in : {k : ℤ} {c : N} (w : Standing a n k c) → (S w.when).mine c
    stood_in w = reached_in hd tl (S w.when) (s w.when) (stood w)

    stood_key : {k : ℤ} {c : N} (w : Standing a n k c) → (S n).key c ≡ (S w.when).key c
    stood_key {c = c} w = (same a n m w.when n c w.low w.high (omega arith) (stood_in w)).key_same

    pub stand_move : {k : ℤ} {c : N} → Standing a n k c → (c ≡ tl → ⊥) → (S n).key c <ℤ k → Standing a n k ((S n).next c)
    stand_move {k} {c} w d l =
        let p = hindsight a n m w.when c w.low w.high d (stood w) in
        let e : (S n).key c ≡ (S p.when).key c = (same a n m p.when n c (omega arith) p.high (omega arith) (reached_in hd tl (S p.when) (s p.when) p.reached)).key_same in
        record { when = p.when; low = omega arith; high = p.high; behind = c; reached = p.reached; inner = d; below = rw e at l; leads = p.link }

    -- not found, the two ways
    pub dead_above : {k : ℤ} {c : N} → Standing a n k c → k <ℤ (S n).key c → Dead a n k
    dead_above {k} {c} w h =
        let g : k <ℤ (S w.when).key ((S w.when).next w.behind) = rw (w.leads, ← stood_key w) h in
        record { when = w.when; low = w.low; high = w.high; dead = gap_dead hd tl (S w.when) (s w.when) w.reached w.below g w.inner }

    pub dead_marked : {k : ℤ} {c : N} → Standing a n k c → (S n).key c ≡ k → (S n).marked c ≡ true → Dead a n k
    dead_marked {k} {c} w e v = by ((S w.when).marked c) refl
      where
        j : (S w.when).key c ≡ k
        j = sym (stood_key w) ∙ e

        by : (b : Bool) → (S w.when).marked c ≡ b → Dead a n k
        by true f = record { when = w.when; low = w.low; high = w.high; dead = rw j at (marked_dead hd tl (S w.when) (s w.when) (stood w) f) }
        by false f =
            let z = marked_between a n m w.when c w.low w.high (stood_in w) f v in
            record { when = suc z.event; low = omega arith; high = omega arith; dead = rw j at z.dead }
