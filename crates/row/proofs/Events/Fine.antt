-- The invariant `Fine` of the world and all workers' spots holds at every moment of every run.
use Prim.Native.Nat.{ℕ, zero, suc, ◌≤◌, ◌<◌}
use mathlib.Core.Bool.{Bool, true, false, cond, ◌&&◌}
use mathlib.Core.Path.{◌≡◌, refl, sym, ap, ◌∙◌}
use mathlib.Core.Logic.{◌⊎◌, inl, inr}
use native.Mathlib.Omega.{arith}
use lib.Dec.{ltb}
use borrow.Author.Tests.{ltb-true}
use lib.IntN.{ℤ}
use lib.Signed.{lt_z_yes}
use Rattle.catalogue.specs.Tests.{upd}
use Rattle.laws.proofs.Picks.{clash}
use Rattle.row.proofs.Base.{upd_at, upd_other, same?, lt_or}
use Rattle.row.specs.Lists.Links.{stop, go, Reached, Follows}
use Rattle.row.proofs.Lists.Hindsight.{Moves}
use Rattle.row.specs.Lists.Store.{view}
use Rattle.catalogue.specs.Numbers.{least}
use Rattle.row.specs.Machine.Vertices.{conV, key_of, fits_key}
use Rattle.row.proofs.Tests.{and_true}
use Rattle.row.proofs.Steps.VertexDeeds.{Legal, begin_ok, wants, fits_is, fresh_good}
use Rattle.row.specs.Lists.Edges.{Prev, head, at, link, tag_at, Mine, eview}
use Rattle.row.specs.Machine.World.{World, Ask, vert, addE, remE, conE, ask_of, Spot, Rest, Vert, FindU, FindV, LookE, ConE, Trial, OnTrial, Untried}
use Rattle.row.specs.Machine.Moves.{move}
use Rattle.row.specs.Machine.Choices.{starts, resting, allowed, Choice, takes, steps, sweeps, Conf, takable, all_rest, act, fresh, conf, Honest}
use Rattle.row.proofs.Graphs.Good.{WGood}
use Rattle.row.proofs.Steps.Spots.{Ok, edit, Serves, own}
use Rattle.row.proofs.Steps.Deeds.{Deed, ok_up}
use Rattle.row.proofs.Steps.Writes.{deed_rest}
use Rattle.row.proofs.Steps.Outcomes.{did_deed, did_ok, did_own}
use Rattle.row.proofs.Steps.Finding.{vfirst}
use Rattle.row.proofs.Steps.Doing.{did}
use Rattle.row.proofs.Steps.Tried.{move_tried}

pub record Fine (X : Conf) : Type 0 where
  pub good : WGood X.world
  pub ok : (w : ℕ) → Ok X.world (X.at w)
  pub apart : (w x : ℕ) → (w ≡ x → ⊥) → 1 ≤ own (X.at w) → own (X.at w) ≡ own (X.at x) → ⊥
  pub few : (w : ℕ) → 8 ≤ w → X.at w ≡ Rest
  pub tried : (e : ℕ) → OnTrial X.world e → (w : ℕ) × (own (X.at w) ≡ e)

pub serves_any : (pl : Spot) → (q : Ask) × Serves q pl
serves_any Rest = (vert (conV least), tt)
serves_any (Vert pl) = let z = wants pl in (vert z.0, (z.0, refl, z.1))
serves_any (FindU d k l c) = (ask_of d k l, refl)
serves_any (FindV d k l u c) = (ask_of d k l, refl)
serves_any (LookE b k l u v p c) = (edit b k l, refl)
serves_any (ConE k l u v c) = (conE k l, refl)
serves_any (Trial k l u v e h) = (addE k l, refl)

own_below : (W : World) (pl : Spot) → Ok W pl → 1 ≤ own pl → own pl < W.e.used
own_below W Rest o h = absurd (omega arith)
own_below W (Vert pl) o h = absurd (omega arith)
own_below W (FindU d k l c) o h = absurd (omega arith)
own_below W (FindV d k l u c) o h = absurd (omega arith)
own_below W (LookE b k l u v p c) o h = absurd (omega arith)
own_below W (ConE k l u v c) o h = absurd (omega arith)
own_below W (Trial k l u v e z) o h = o.1.high

abbrev pub first_key : Ask → ℤ
first_key (vert q) = key_of q
first_key (addE k l) = k
first_key (remE k l) = k
first_key (conE k l) = k

find_ok : (W : World) → WGood W → (k l : ℤ) → (fits_key k && fits_key l) ≡ true → Legal k × Legal l × (W.v.next 0 < W.v.used)
find_ok W g k l e = let z = and_true (fits_key k) (fits_key l) e in (fits_is k z.0, fits_is l z.1, vfirst W g)

starts_ok : (W : World) → WGood W → (q : Ask) → allowed q ≡ true → Ok W (starts W q)
starts_ok W g (vert q) e = begin_ok W.v g.good q (fits_is (key_of q) e)
starts_ok W g (addE k l) e = find_ok W g k l e
starts_ok W g (remE k l) e = find_ok W g k l e
starts_ok W g (conE k l) e = find_ok W g k l e

-- the key that a call walks for first
pub starts_legal : (q : Ask) → allowed q ≡ true → Legal (first_key q)
starts_legal (vert q) e = fits_is (key_of q) e
starts_legal (addE k l) e = fits_is k (and_true (fits_key k) (fits_key l) e).0
starts_legal (remE k l) e = fits_is k (and_true (fits_key k) (fits_key l) e).0
starts_legal (conE k l) e = fits_is k (and_true (fits_key k) (fits_key l) e).0

starts_own : (W : World) (q : Ask) → own (starts W q) ≡ 0
starts_own W (vert q) = refl
starts_own W (addE k l) = refl
starts_own W (remE k l) = refl
starts_own W (conE k l) = refl

-- one worker's spot is replaced
module _ (X : Conf) (f : Fine X) (W' : World) (v : ℕ) (to : Spot) where
  replaced : WGood W' → Ok W' to → ((w : ℕ) → (w ≡ v → ⊥) → Ok W' (X.at w))
      → ((w : ℕ) → (w ≡ v → ⊥) → 1 ≤ own (X.at w) → own (X.at w) ≡ own to → ⊥) → (8 ≤ v → to ≡ Rest)
      → ((e : ℕ) → OnTrial W' e → (own to ≡ e) ⊎ (OnTrial X.world e × (e ≡ own (X.at v) → ⊥))) → Fine (record { world = W'; at = upd X.at v to })
  replaced g o r d l t = record { good = g; ok = ok'; apart = apart'; few = few'; tried = tried' }
    where
      tried' : (e : ℕ) → OnTrial W' e → (w : ℕ) × (own (upd X.at v to w) ≡ e)
      tried' e i =
          elim (t e i) [
            | inl q ↦ (v, ap own (upd_at X.at v to v refl) ∙ q)
            | inr p ↦
                let z = f.tried e p.0 in
                let n : z.0 ≡ v → ⊥ = λ q. p.1 (sym z.1 ∙ ap (λ w. own (X.at w)) q) in
                (z.0, ap own (upd_other X.at v to z.0 n) ∙ z.1)
          ]

      ok' : (w : ℕ) → Ok W' (upd X.at v to w)
      ok' w = elim (same? w v) [ inl e ↦ rw (upd_at X.at v to w e) o | inr n ↦ rw (upd_other X.at v to w n) (r w n) ]

      few' : (w : ℕ) → 8 ≤ w → upd X.at v to w ≡ Rest
      few' w h = elim (same? w v) [ inl e ↦ upd_at _ _ _ _ e ∙ l (omega arith) | inr n ↦ upd_other _ _ _ _ n ∙ f.few w h ]

      apart' : (w x : ℕ) → (w ≡ x → ⊥) → 1 ≤ own (upd X.at v to w) → own (upd X.at v to w) ≡ own (upd X.at v to x) → ⊥
      apart' w x n =
          elim (same? w v) [
            | inl e ↦
                let m : x ≡ v → ⊥ = λ z. n (e ∙ sym z) in
                rw (upd_at X.at v to w e, upd_other X.at v to x m) (λ h z. d x m (omega arith) (sym z))
            | inr m ↦
                elim (same? x v) [
                  | inl e ↦ rw (upd_other X.at v to w m, upd_at X.at v to x e) (d w m)
                  | inr k ↦ rw (upd_other X.at v to w m, upd_other X.at v to x k) (f.apart w x n)
                ]
          ]

resting_is : (pl : Spot) → resting pl ≡ true → pl ≡ Rest
resting_is Rest e = refl
resting_is (Vert pl) e = clash (cc)
resting_is (FindU d k l c) e = clash (cc)
resting_is (FindV d k l u c) e = clash (cc)
resting_is (LookE b k l u v p c) e = clash (cc)
resting_is (ConE k l u v c) e = clash (cc)
resting_is (Trial k l u v e' h) e = clash (cc)

all_rest_is : (n : ℕ) (f : ℕ → Spot) → all_rest n f ≡ true → (w : ℕ) → w < n → f w ≡ Rest
unfolding all_rest
all_rest_is zero f e w h = absurd (omega arith)
all_rest_is (suc n) f e w h =
    let z = and_true (resting (f n)) (all_rest n f) e in
    elim (same? w n) [ inl q ↦ rw q (resting_is (f n) z.0) | inr d ↦ all_rest_is n f z.1 w (omega arith) ]

-- at a sweep that is accepted all workers rest
pub rest_all : (X : Conf) → Fine X → all_rest 8 X.at ≡ true → (w : ℕ) → X.at w ≡ Rest
rest_all X f e w = elim (lt_or w 8) [ inl h ↦ all_rest_is 8 X.at e w h | inr h ↦ f.few w h ]

own_rest : (pl : Spot) → pl ≡ Rest → own pl ≡ 0
own_rest pl e = ap own e

-- while all workers rest no edge is on trial
pub rest_untried : (X : Conf) → Fine X → ((w : ℕ) → X.at w ≡ Rest) → Untried X.world
rest_untried X f r e i = let z = f.tried e i in omega (arith, i.low, z.1, own_rest (X.at z.0) (r z.0))

module _ (X : Conf) (f : Fine X) (v : ℕ) (q : Ask) where
  took : takable X.at v q ≡ true → (v < 8) × (own (X.at v) ≡ 0) × (allowed q ≡ true)
  took e =
      let z = and_true (ltb v 8) (resting (X.at v) && allowed q) e in
      let r = and_true (resting (X.at v)) (allowed q) z.1 in
      (ltb-true v 8 z.0, own_rest (X.at v) (resting_is (X.at v) r.0), r.1)

pub act_fine : (X : Conf) → Fine X → (ch : Choice) → ((W : World) → ch ≡ sweeps W → WGood X.world → WGood W × Untried W) → Fine (act X ch)
act_fine X f (takes v q) s = by (takable X.at v q) refl
  where
    by : (b : Bool) → takable X.at v q ≡ b → Fine (cond b (record { world = X.world; at = upd X.at v (starts X.world q) }) X)
    by true e =
        replaced X f X.world v (starts X.world q) f.good (starts_ok X.world f.good q (took X f v q e).2)
        (λ w n. f.ok w) (λ w n h z. omega (arith, starts_own X.world q)) (λ h. absurd (omega (arith, (took X f v q e).0)))
        (λ x i. inr (i, λ z. omega (arith, i.low, (took X f v q e).1)))
    by false e = f
act_fine X f (steps v) s =
    let z = serves_any (X.at v) in
    let h = did X.world f.good z.0 (X.at v) (f.ok v) z.1 in
    let o = move X.world (X.at v) in
    replaced X f o.world v o.spot (did_deed h).good (did_ok h)
    (λ w n. ok_up X.world o.world (own (X.at v)) (did_deed h) (X.at w) (f.apart w v n) (f.ok w))
    (λ w n lo e. elim (did_own h) [
      | inl a ↦ f.apart w v n lo (e ∙ a)
      | inr b ↦ elim b [ inl a ↦ omega (arith, own_below X.world (X.at w) (f.ok w) lo) | inr a ↦ omega arith ]
    ])
    (λ l. ap (λ pl. (move X.world pl).spot) (f.few v l))
    (move_tried X.world (X.at v)).was
act_fine X f (sweeps W) s = by (all_rest 8 X.at) refl
  where
    by : (b : Bool) → all_rest 8 X.at ≡ b → Fine (cond b (record { world = W; at = X.at }) X)
    by false e = f
    by true e = record {
      good = (s W refl f.good).0;
      ok = λ w. rw (rest_all X f e w) tt;
      apart = λ w x n h z. omega (arith, own_rest (X.at w) (rest_all X f e w));
      few = f.few;
      tried = λ x i. absurd ((s W refl f.good).1 x i);
    }

-- the vertex list and each edge list move as hindsight asks
pub record Both (W X : World) : Type 0 where
  pub vm : Moves 0 1 (view W.v) (view X.v)
  pub em : (u : ℕ) → Moves head (at 0) (eview W.e u) (eview X.e u)

-- so no vertex is handed back
pub more_vertices : {W X : World} → WGood W → Both W X → W.v.used ≤ X.v.used
more_vertices {W} g b = by W.v.used g.good.sound.some b.vm.stays
  where
    by : (n : ℕ) {m : ℕ} → 2 ≤ n → ((x : ℕ) → x < n → x < m) → n ≤ m
    by zero {m = m} h s = elim h [ ]
    by (suc n) h s = s n (omega arith)

both : {W X : World} {n : ℕ} → Deed W X n → Both W X
both d = record { vm = d.vmoves; em = d.emoves }

pub act_both : (X : Conf) → Fine X → (ch : Choice) → ((W : World) → ch ≡ sweeps W → ⊥) → Both X.world (act X ch).world
act_both X f (takes v q) n = by (takable X.at v q)
  where
    by : (b : Bool) → Both X.world (cond b (record { world = X.world; at = upd X.at v (starts X.world q) }) X).world
    by true = both (deed_rest X.world f.good 0)
    by false = both (deed_rest X.world f.good 0)
act_both X f (steps v) n =
    let z = serves_any (X.at v) in
    both (did_deed (did X.world f.good z.0 (X.at v) (f.ok v) z.1))
act_both X f (sweeps W) n = absurd (n W refl)

-- so they do at each event, or all workers rest, as at a sweep
pub act_moves : (X : Conf) → Fine X → (ch : Choice) → Both X.world (act X ch).world ⊎ ((w : ℕ) → X.at w ≡ Rest)
act_moves X f (takes v q) = inl (act_both X f (takes v q) (λ W z. clash (cc)))
act_moves X f (steps v) = inl (act_both X f (steps v) (λ W z. clash (cc)))
act_moves X f (sweeps W) = by (all_rest 8 X.at) refl
  where
    by : (b : Bool) → all_rest 8 X.at ≡ b → Both X.world (cond b (record { world = W; at = X.at }) X).world ⊎ ((w : ℕ) → X.at w ≡ Rest)
    by true e = inr (rest_all X f e)
    by false e = inl (both (deed_rest X.world f.good 0))

pub fresh_fine : Fine fresh
fresh_fine = record {
  good = record {
    good = fresh_good;
    esound = record { some = omega arith; sorted = λ u. record { head_in = tt; follows = next_ok u; linked = reached u }; tail_plain = refl };
    tail_key = refl;
    tail_tag = refl;
    ends = λ e l h. absurd (omega arith);
    safe = λ e a t. omega (arith, a.low, a.high);
  };
  ok = λ w. tt;
  apart = λ w x n h e. omega arith;
  few = λ w h. refl;
  tried = λ e i. absurd (omega (arith, i.low, i.high));
}
  where
    next_ok : (u : ℕ) (x : Prev) → Mine fresh.world.e u x → (x ≡ at 0 → ⊥) → Follows (eview fresh.world.e u) x (at (link fresh.world.e u x))
    next_ok u head m n = record { inside = inl refl; above = lt_z_yes tt }
    next_ok u (at e) (inl z) n = absurd (n (ap at z))
    next_ok u (at e) (inr i) n = absurd (omega (arith, i.low, i.high))

    reached : (u : ℕ) (x : Prev) → Mine fresh.world.e u x → tag_at fresh.world.e.tag x ≡ false → Reached head (at 0) (eview fresh.world.e u) x
    reached u head m t = stop refl
    reached u (at e) (inl z) t = go {a = head} (λ q. clash (cc)) (stop (ap at (sym z)))
    reached u (at e) (inr i) t = absurd (omega (arith, i.low, i.high))

module _ (s : ℕ → Choice) (h : Honest WGood s) where
  pub fine : (n : ℕ) → Fine (conf s n)
  unfolding conf
  fine zero = fresh_fine
  fine (suc n) = act_fine (conf s n) (fine n) (s n) (λ W e g. ((h n W e g).0, (h n W e g).1))

  pub moves : (n : ℕ) → Both (conf s n).world (conf s (suc n)).world ⊎ ((w : ℕ) → (conf s n).at w ≡ Rest)
  unfolding conf
  moves n = act_moves (conf s n) (fine n) (s n)

  pub both_at : (n : ℕ) → ((W : World) → s n ≡ sweeps W → ⊥) → Both (conf s n).world (conf s (suc n)).world
  unfolding conf
  both_at n = act_both (conf s n) (fine n) (s n)
