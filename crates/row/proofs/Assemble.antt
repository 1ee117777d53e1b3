-- The row is put together: for t = 0, 1, .. the calls placed at t, in the order of their events.
use Prim.Native.Nat.{ℕ, zero, suc, ◌+◌, ◌≤◌, ◌<◌}
use mathlib.Core.Bool.{Bool, true, cond}
use mathlib.Core.Path.{◌≡◌, refl, sym, ◌∙◌}
use mathlib.Core.Logic.{inl, inr}
use mathlib.Core.List.{List, [], ◌∷◌, ◌++◌}
use mathlib.Core.Option.{some}
use native.Mathlib.Omega.{arith}
use lib.Dec.{eqb}
use borrow.Author.Tests.{eq-eqb, ne_eqb}
use Rattle.laws.proofs.Picks.{clash}
use Rattle.row.proofs.Base.{same?}
use Rattle.row.specs.Rows.Row.{Call, History, Entry, All, nil, also, Replays, times, InOrder, Genuine, Explains, Event, quiet, acts, looks}

-- ---- lists

pub all_append : {A : Type 0} {P : A → Type 0} {xs ys : List A} → All P xs → All P ys → All P (xs ++ ys)
all_append nil q = q
all_append (also p r) q = also p (all_append r q)

all_map : {A : Type 0} {P Q : A → Type 0} {xs : List A} → ((x : A) → P x → Q x) → All P xs → All Q xs
all_map f nil = nil
all_map f (also {x = x} p r) = also (f x p) (all_map f r)

module _ {Req Rep : Type 0} where
  times_append : (b : ℕ) (xs ys : List (Entry Req Rep)) → times b (xs ++ ys) ≡ times b xs + times b ys
  times_append b [] ys = omega arith
  times_append b (x ∷ xs) ys = omega (arith, times_append b xs ys)

  order_append : (T : ℕ) {xs ys : List (Entry Req Rep)} → All (λ e. e.place ≤ T) xs → All (λ e. T ≤ e.place) ys → InOrder xs → InOrder ys → InOrder (xs ++ ys)
  order_append T nil b p q = q
  order_append T (also h a) b p q = (all_append p.0 (all_map (λ e k. omega arith) b), order_append T a b p.1 q)

  same_order : (t : ℕ) {xs : List (Entry Req Rep)} → All (λ e. e.place ≡ t) xs → InOrder xs
  same_order t nil = tt
  same_order t (also h a) = (all_map (λ e k. omega arith) a, same_order t a)

module _ {G Req Rep : Type 0} (does : G → Req → Rep → G → Type 0) where
  -- the row's calls, one after another, from g to h
  data Runs (h : G) : G → List (Entry Req Rep) → Type 0 where
    stop : {g : G} → g ≡ h → Runs h g []
    go : {g k : G} {e : Entry Req Rep} {es : List (Entry Req Rep)} → does g e.call.request e.call.reply k → Runs h k es → Runs h g (e ∷ es)

  runs_append : {h g k : G} {xs ys : List (Entry Req Rep)} → Runs h g xs → Runs k h ys → Runs k g (xs ++ ys)
  runs_append (stop e) s = rw e s
  runs_append (go e r) s = go e (runs_append r s)

  runs_replay : {h g : G} {xs : List (Entry Req Rep)} → Runs h g xs → Replays does g xs h
  runs_replay (stop e) = e
  runs_replay (go {k = k} e r) = (k, e, runs_replay r)

module _ {G Req Rep : Type 0} (does : G → Req → Rep → G → Type 0) (counts : Call Req Rep → Bool) (H : History G Req Rep)
    (ev : (j : ℕ) → Event does counts H j) where
  abbrev Ev : ℕ → Type 0
  Ev j = Event does counts H j

  abbrev R : G → G → List (Entry Req Rep) → Type 0
  R h g xs = Runs does h g xs

  abbrev one : ℕ → ℕ → ℕ → Call Req Rep → List (Entry Req Rep)
  one t b p c = cond (eqb p t) (record { event = b; place = p; call = c } ∷ []) []

  -- the answer of event suc j, if it is placed at t
  abbrev pick : ℕ → (j : ℕ) → Ev j → List (Entry Req Rep)
  pick t j (quiet q e) = []
  pick t j (acts c a b f s) = one t (suc j) (suc j) c
  pick t j (looks c a b l p f u s) = one t (suc j) p c

  -- those of the first m events, and for all moments up to T
  block : ℕ → ℕ → List (Entry Req Rep)
  block t zero = []
  block t (suc j) = block t j ++ pick t j (ev j)

  row : ℕ → ℕ → List (Entry Req Rep)
  row zero m = block zero m
  row (suc T) m = row T m ++ block (suc T) m

  -- ---- `one`, at its two values

  data One (t b p : ℕ) (c : Call Req Rep) : Type 0 where
    is : p ≡ t → one t b p c ≡ record { event = b; place = p; call = c } ∷ [] → One t b p c
    not : (p ≡ t → ⊥) → one t b p c ≡ [] → One t b p c

  one? : (t b p : ℕ) (c : Call Req Rep) → One t b p c
  one? t b p c = elim (same? p t) [ inl q ↦ is q (rw (eq-eqb p t q)) | inr n ↦ not n (rw (ne_eqb p t n)) ]

  -- ---- it runs

  pick_early : (s j : ℕ) → suc j ≤ s → (e : Ev j) → R (H.live s) (H.live s) (pick (suc s) j e)
  pick_early s j h (quiet q e) = stop refl
  pick_early s j h (acts c a b f w) = elim (one? (suc s) (suc j) (suc j) c) [ is q z ↦ absurd (omega arith) | not n z ↦ rw z (stop refl) ]
  pick_early s j h (looks c a b l p f u w) = elim (one? (suc s) (suc j) p c) [ is q z ↦ absurd (omega arith) | not n z ↦ rw z (stop refl) ]

  pick_now : (j : ℕ) (e : Ev j) → R (H.live (suc j)) (H.live j) (pick (suc j) j e)
  pick_now j (quiet q e) = stop (sym e)
  pick_now j (acts c a b f w) = elim (one? (suc j) (suc j) (suc j) c) [ is q z ↦ rw z (go w (stop refl)) | not n z ↦ absurd (n refl) ]
  pick_now j (looks c a b l p f u w) = elim (one? (suc j) (suc j) p c) [ is q z ↦ absurd (omega arith) | not n z ↦ rw z (stop (sym l)) ]

  pick_late : (t j : ℕ) → t ≤ j → (e : Ev j) → R (H.live t) (H.live t) (pick t j e)
  pick_late t j h (quiet q e) = stop refl
  pick_late t j h (acts c a b f w) = elim (one? t (suc j) (suc j) c) [ is q z ↦ absurd (omega arith) | not n z ↦ rw z (stop refl) ]
  pick_late t j h (looks c a b l p f u w) = elim (one? t (suc j) p c) [ is q z ↦ rw z (go (rw q at w) (stop refl)) | not n z ↦ rw z (stop refl) ]

  early : (s m : ℕ) → m ≤ s → R (H.live s) (H.live s) (block (suc s) m)
  unfolding block
  early s zero h = stop refl
  early s (suc j) h = runs_append does (early s j (omega arith)) (pick_early s j h (ev j))

  abbrev before : ℕ → ℕ
  before zero = zero
  before (suc s) = s

  -- `late` at the moment of the event itself; apart, since with `block` open its equation is not rewritten
  late_now : (s j : ℕ) → s ≡ j → R (H.live (suc s)) (H.live s) (block (suc s) j ++ pick (suc s) j (ev j))
  late_now s j q = rw q (runs_append does (early j j (omega arith)) (pick_now j (ev j)))

  late : (t m : ℕ) → t ≤ m → R (H.live t) (H.live (before t)) (block t m)
  unfolding block
  late zero zero h = stop refl
  late (suc s) zero h = absurd (omega arith)
  late zero (suc j) h = runs_append does (late zero j (omega arith)) (pick_late zero j (omega arith) (ev j))
  late (suc s) (suc j) h =
      elim (same? s j) [
        | inl q ↦ late_now s j q
        | inr n ↦ runs_append does (late (suc s) j (omega arith)) (pick_late (suc s) j (omega arith) (ev j))
      ]

  row_runs : (T m : ℕ) → T ≤ m → R (H.live T) (H.live 0) (row T m)
  unfolding row
  row_runs zero m h = late zero m h
  row_runs (suc T) m h = runs_append does (row_runs T m (omega arith)) (late (suc T) m h)

  -- ---- every entry is genuine, and placed where it stands

  record Good (t m : ℕ) (e : Entry Req Rep) : Type 0 where
    fine : Genuine counts H m e
    placed : e.place ≡ t

  one_good : (t m b p : ℕ) (c : Call Req Rep) → Genuine counts H m (record { event = b; place = p; call = c }) → All (Good t m) (one t b p c)
  one_good t m b p c g = elim (one? t b p c) [ is q z ↦ rw z (also (record { fine = g; placed = q }) nil) | not n z ↦ rw z nil ]

  pick_good : (t j : ℕ) (e : Ev j) → All (Good t (suc j)) (pick t j e)
  pick_good t j (quiet q e) = nil
  pick_good t j (acts c a b f w) =
      one_good t (suc j) (suc j) (suc j) c (record { low = omega arith; high = omega arith; answer = a; belongs = b; not_before = omega arith; not_after = omega arith })
  pick_good t j (looks c a b l p f u w) =
      one_good t (suc j) (suc j) p c (record { low = omega arith; high = omega arith; answer = a; belongs = b; not_before = f; not_after = omega arith })

  good_up : (t j : ℕ) (e : Entry Req Rep) → Good t j e → Good t (suc j) e
  good_up t j e g = record { fine = record { low = g.fine.low; high = omega arith; answer = g.fine.answer; belongs = g.fine.belongs; not_before = g.fine.not_before; not_after = g.fine.not_after }; placed = g.placed }

  block_good : (t m : ℕ) → All (Good t m) (block t m)
  unfolding block
  block_good t zero = nil
  block_good t (suc j) = all_append (all_map (good_up t j) (block_good t j)) (pick_good t j (ev j))

  row_genuine : (T m : ℕ) → All (Genuine counts H m) (row T m)
  unfolding row
  row_genuine zero m = all_map (λ e g. g.fine) (block_good zero m)
  row_genuine (suc T) m = all_append (row_genuine T m) (all_map (λ e g. g.fine) (block_good (suc T) m))

  row_below : (T m : ℕ) → All (λ e. e.place ≤ T) (row T m)
  unfolding row
  row_below zero m = all_map (λ e g. omega (arith, g.placed)) (block_good zero m)
  row_below (suc T) m =
      all_append (all_map (λ e h. omega arith) (row_below T m))
      (all_map (λ e g. omega (arith, g.placed)) (block_good (suc T) m))

  block_order : (t m : ℕ) → InOrder (block t m)
  block_order t m = same_order t (all_map (λ e g. g.placed) (block_good t m))

  row_order : (T m : ℕ) → InOrder (row T m)
  unfolding row
  row_order zero m = block_order zero m
  row_order (suc T) m =
      order_append T (row_below T m) (all_map (λ e g. omega (arith, g.placed)) (block_good (suc T) m)) (row_order T m) (block_order (suc T) m)

  -- ---- each once

  -- event suc i does not stand in what event suc j, another one, gives
  pick_other : (b t j : ℕ) → (suc j ≡ b → ⊥) → (e : Ev j) → times b (pick t j e) ≡ 0
  pick_other b t j d (quiet q e) = refl
  pick_other b t j d (acts c a l f w) = elim (one? t (suc j) (suc j) c) [ is q z ↦ rw (z, ne_eqb (suc j) b d) | not n z ↦ rw z ]
  pick_other b t j d (looks c a l k p f u w) = elim (one? t (suc j) p c) [ is q z ↦ rw (z, ne_eqb (suc j) b d) | not n z ↦ rw z ]

  block_none : (t i m : ℕ) → m ≤ i → times (suc i) (block t m) ≡ 0
  unfolding block
  block_none t i zero h = refl
  block_none t i (suc j) h = rw times_append (omega (arith, block_none t i j (omega arith), pick_other (suc i) t j (omega arith) (ev j)))

  block_once : (t i m : ℕ) → i < m → times (suc i) (block t m) ≡ times (suc i) (pick t i (ev i))
  unfolding block
  block_once t i zero h = absurd (omega arith)
  block_once t i (suc j) h =
      elim (same? i j) [
        | inl q ↦ rw (times_append, q, block_none t j j (omega arith)) (omega arith)
        | inr n ↦ rw times_append (omega (arith, block_once t i j (omega arith), pick_other (suc i) t j (omega arith) (ev j)))
      ]

  -- placed at p, it stands in the block of p only
  record At (i p : ℕ) : Type 0 where
    here : times (suc i) (pick p i (ev i)) ≡ 1
    only : (t : ℕ) → (p ≡ t → ⊥) → times (suc i) (pick t i (ev i)) ≡ 0

  row_none : (i p : ℕ) → At i p → (T m : ℕ) → i < m → T < p → times (suc i) (row T m) ≡ 0
  unfolding row
  row_none i p a zero m h l = block_once zero i m h ∙ a.only zero (omega arith)
  row_none i p a (suc T) m h l =
      rw times_append (omega (arith, row_none i p a T m h (omega arith), block_once (suc T) i m h, a.only (suc T) (omega arith)))

  row_once : (i p : ℕ) → At i p → (T m : ℕ) → i < m → p ≤ T → times (suc i) (row T m) ≡ 1
  unfolding row
  row_once i p a zero m h l = let q : p ≡ 0 = omega arith in block_once zero i m h ∙ (rw q at a.here)
  row_once i p a (suc T) m h l =
      elim (same? p (suc T)) [
        | inl q ↦ rw times_append (omega (arith, row_none i p a T m h (omega arith), block_once (suc T) i m h, rw q at a.here))
        | inr n ↦ rw times_append (omega (arith, row_once i p a T m h (omega arith), block_once (suc T) i m h, a.only (suc T) n))
      ]

  one_here : (b p : ℕ) (c : Call Req Rep) → times b (one p b p c) ≡ 1
  one_here b p c = elim (one? p b p c) [ is q z ↦ rw (z, eq-eqb b b refl) | not n z ↦ absurd (n refl) ]

  placed : (i : ℕ) (c : Call Req Rep) → H.answered (suc i) ≡ some c → counts c ≡ true → (p : ℕ) × (p ≤ suc i) × At i p
  placed i c a b = by (ev i) refl
    where
      by : (e : Ev i) → ev i ≡ e → (p : ℕ) × (p ≤ suc i) × At i p
      by (quiet q e) w = clash (cc (q c a))
      by (acts d a' b' f s) w = (suc i, omega arith, record { here = rw w (one_here (suc i) (suc i) d); only = λ t n. rw (w, ne_eqb (suc i) t n) })
      by (looks d a' b' l p f u s) w = (p, omega arith, record { here = rw w (one_here (suc i) p d); only = λ t n. rw (w, ne_eqb p t n) })

  once : (n b : ℕ) (c : Call Req Rep) → 1 ≤ b → b ≤ n → H.answered b ≡ some c → counts c ≡ true → times b (row n n) ≡ 1
  once n zero c l h a k = absurd (omega arith)
  once n (suc i) c l h a k = let s = placed i c a k in row_once i s.0 s.2 n n h (omega arith)

  explained : (n : ℕ) → Explains does counts H n (row n n)
  explained n = record { genuine = row_genuine n n; each_once = once n; in_order = row_order n n; replies = runs_replay does (row_runs n n (omega arith)) }

-- where each event is quiet, acts or looks, every number of events has its row
pub assemble : (G Req Rep : Type 0) (does : G → Req → Rep → G → Type 0) (counts : Call Req Rep → Bool) (H : History G Req Rep)
    → ((j : ℕ) → Event does counts H j) → (n : ℕ) → (row : List (Entry Req Rep)) × Explains does counts H n row
assemble G Req Rep does counts H ev n = (row does counts H ev n n, explained does counts H ev n)
