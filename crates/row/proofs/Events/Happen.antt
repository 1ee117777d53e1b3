-- Each event of a run is quiet, acts, or looks:
-- what a walker found on its way shows the moment in the past that a late reply rests on.
use Prim.Native.Nat.{ℕ, zero, suc, ◌≤◌, ◌<◌}
use mathlib.Core.Bool.{Bool, true, false, cond, ◌&&◌, and-false}
use mathlib.Core.Path.{◌≡◌, refl, sym, ap, ◌∙◌}
use mathlib.Core.Logic.{◌⊎◌, inl, inr}
use mathlib.Core.Option.{none, some}
use native.Mathlib.Omega.{arith}
use lib.IntN.{ℤ}
use lib.Dec.{eqb, ltb}
use borrow.Author.Tests.{eq-eqb, ne_eqb}
use Rattle.catalogue.specs.Tests.{upd}
use Rattle.laws.proofs.Picks.{clash}
use Rattle.row.proofs.Base.{upd_at, upd_other, same?}
use Rattle.row.specs.Rows.Row.{Call, By, Event, quiet, acts, looks}
use Rattle.row.specs.Lists.Links.{stop, View, Sorted, Live}
use Rattle.row.proofs.Lists.Hindsight.{Moves, Dead, stays_in, key_stays, plain_before, marked_between, Standing, stand_wait, stand_move, dead_above, dead_marked}
use Rattle.row.specs.Lists.Store.{view}
use Rattle.row.specs.Machine.Vertices.{addV, remV, conV, Place, Idle, AddV, RemV, ConV, live}
use Rattle.row.proofs.Graphs.LiveSet.{present_live, present_yes, present_no}
use Rattle.row.proofs.Tests.{and_true}
use Rattle.row.proofs.Steps.VertexDeeds.{Legal, Looks, Missed}
use Rattle.row.specs.Lists.Edges.{Prev, head, at, eview}
use Rattle.row.specs.Machine.World.{World, Ask, vert, addE, remE, conE, Kind, adds, rems, cons, ask_of, Spot, Rest, Vert, FindU, FindV, LookE, ConE, Trial, Next, edges, graph, alone}
use Rattle.row.specs.Machine.Moves.{spot_of, lost, look_at, move}
use Rattle.row.specs.Machine.Choices.{starts, resting, allowed, Choice, takes, steps, sweeps, takable, all_rest, act, conf, opens, Began, since, began, close, said, answered, counts, history, Honest}
use Rattle.row.proofs.Graphs.Good.{WGood}
use Rattle.row.proofs.Graphs.Graph.{edge_no, IsV, listed}
use Rattle.row.proofs.Steps.Spots.{Serves}
use Rattle.row.proofs.Steps.Outcomes.{Goes, settled, con_on, u_on, u_found, v_on, v_found, e_looks, e_walks, e_tries, e_trying, EMissed, DeadV, Misses, con_miss, u_miss, v_miss, look_dead, try_dead, con_dead, edge_miss, Did, does_on, does_now, does_out, does_past, busy_before}
use Rattle.row.proofs.Steps.VertexDoing.{same_between}
use Rattle.row.proofs.Steps.Doing.{did}
use Rattle.row.proofs.Events.Fine.{first_key, starts_legal, Both, fine, moves, both_at}

-- ---- a call whose vertex is not live

module _ (W : World) (g : WGood W) where
  no_source : (k l : ℤ) → live W.v k ≡ false → edges W k l ≡ false
  no_source k l d =
      edge_no W k l (λ p.
      let w = g.ends p.node p.low p.high in
      let z = present_yes {C = W.v} {k = k} (record { node = W.e.owner p.node; low = w.source_low; high = w.source_high; plain = p.source; holds = p.leaves }) in
      clash (cc))

  no_goal : (k l : ℤ) → live W.v l ≡ false → edges W k l ≡ false
  no_goal k l d =
      edge_no W k l (λ p.
      let w = g.ends p.node p.low p.high in
      let z = present_yes {C = W.v} {k = l} (record { node = W.e.target p.node; low = w.target_low; high = w.target_high; plain = p.goal; holds = w.same_key ∙ p.comes }) in
      clash (cc))

  alone_k : (q : Kind) (k l : ℤ) → live W.v k ≡ false → alone (graph W) (ask_of q k l) ≡ (lost q, graph W)
  alone_k adds k l d = rw d
  alone_k rems k l d = rw d
  alone_k cons k l d = rw (no_source k l d)

  alone_l : (q : Kind) (k l : ℤ) → live W.v l ≡ false → alone (graph W) (ask_of q k l) ≡ (lost q, graph W)
  alone_l adds k l d = rw (d, and-false (live W.v k))
  alone_l rems k l d = rw (d, and-false (live W.v k))
  alone_l cons k l d = rw (no_goal k l d)

module _ (s : ℕ → Choice) (honest : Honest WGood s) where
  abbrev wd : ℕ → World
  wd t = (conf s t).world

  abbrev S : ℕ → View ℕ
  S t = view (wd t).v

  abbrev F : ℕ → ℕ → View Prev
  F u t = eview (wd t).e u

  sorted : (t : ℕ) → Sorted 0 1 (S t)
  sorted t = (fine s honest t).good.good.sound.sorted

  fsorted : (u t : ℕ) → Sorted head (at 0) (F u t)
  fsorted u t = (fine s honest t).good.esound.sorted u

  abbrev Stand : ℕ → ℕ → ℤ → ℕ → Type 0
  Stand a n k c = Standing 0 1 S sorted a n k c

  abbrev StandE : ℕ → ℕ → ℕ → ℤ → Prev → Type 0
  StandE u a n k c = Standing head (at 0) (F u) (fsorted u) a n k c

  -- no sweep from a to n
  abbrev Span : ℕ → ℕ → Type 0
  Span a n = (i : ℕ) → a ≤ i → i < n → Both (wd i) (wd (suc i))

  span : {a n : ℕ} → Span a n → (i : ℕ) → a ≤ i → i < n → Moves 0 1 (S i) (S (suc i))
  span m i h l = (m i h l).vm

  fspan : (u : ℕ) {a n : ℕ} → Span a n → (b : ℕ) → a ≤ b → (i : ℕ) → b ≤ i → i < n → Moves head (at 0) (F u i) (F u (suc i))
  fspan u m b k i h l = (m i (omega arith) l).em u

  conf_next : (n : ℕ) (ch : Choice) → s n ≡ ch → conf s (suc n) ≡ act (conf s n) ch
  unfolding conf
  conf_next n ch e = ap (act (conf s n)) e

  -- ---- what is known of a worker by what it did

  -- u was found within the call
  record Found (a n : ℕ) (k : ℤ) (u : ℕ) : Type 0 where
    when : ℕ
    low : a ≤ when
    high : when ≤ n
    inside : u < (wd when).v.used
    plain : (wd when).v.marked u ≡ false
    holds : (wd when).v.key u ≡ k

  abbrev VWalk : ℕ → ℕ → Place → Type 0
  VWalk n a Idle = Unit {0}
  VWalk n a (AddV k p c) = Unit {0}
  VWalk n a (RemV k p c) = Unit {0}
  VWalk n a (ConV k c) = Stand a n k c

  abbrev Walk : ℕ → ℕ → Spot → Type 0
  Walk n a Rest = Unit {0}
  Walk n a (Vert pl) = VWalk n a pl
  Walk n a (FindU q k l c) = Stand a n k c
  Walk n a (FindV q k l u c) = Found a n k u × Stand a n l c
  Walk n a (LookE b k l u v p c) = Found a n k u × Found a n l v
  Walk n a (ConE k l u v c) = (f : Found a n k u) × Found a n l v × StandE u f.when n l (at c)
  Walk n a (Trial k l u v e h) = Found a n k u × Found a n l v

  record Asked (n : ℕ) (b : Began) (pl : Spot) : Type 0 where
    early : b.first ≤ n
    serves : Serves b.request pl
    walk : Walk n b.first pl
    unswept : resting pl ≡ false → Span b.first n

  abbrev found_wait : {a n : ℕ} {k : ℤ} {u : ℕ} → Found a n k u → Found a (suc n) k u
  found_wait f = record { when = f.when; low = f.low; high = omega (arith, f.high); inside = f.inside; plain = f.plain; holds = f.holds }

  vwalk_wait : (n a : ℕ) (pl : Place) → VWalk n a pl → VWalk (suc n) a pl
  vwalk_wait n a Idle w = tt
  vwalk_wait n a (AddV k p c) w = tt
  vwalk_wait n a (RemV k p c) w = tt
  vwalk_wait n a (ConV k c) w = stand_wait 0 1 S sorted w

  walk_wait : (n a : ℕ) (pl : Spot) → Walk n a pl → Walk (suc n) a pl
  walk_wait n a Rest w = tt
  walk_wait n a (Vert pl) w = vwalk_wait n a pl w
  walk_wait n a (FindU q k l c) w = stand_wait 0 1 S sorted w
  walk_wait n a (FindV q k l u c) w = (found_wait w.0, stand_wait 0 1 S sorted w.1)
  walk_wait n a (LookE b k l u v p c) w = (found_wait w.0, found_wait w.1)
  walk_wait n a (ConE k l u v c) w = (found_wait w.0, found_wait w.1, stand_wait head (at 0) (F u) (fsorted u) w.2)
  walk_wait n a (Trial k l u v e h) w = (found_wait w.0, found_wait w.1)

  one_more : {a n : ℕ} → Span a n → Both (wd n) (wd (suc n)) → Span a (suc n)
  one_more {a} {n} m d i h l = elim (same? i n) [ inl e ↦ rw e d | inr k ↦ m i h (omega arith) ]

  -- the event n is no sweep, or the worker rests
  abbrev GoesOn : ℕ → Spot → Type 0
  GoesOn n pl = Both (wd n) (wd (suc n)) ⊎ (pl ≡ Rest)

  rests_not : {A : Type 0} (pl : Spot) → pl ≡ Rest → resting pl ≡ false → A
  rests_not pl e h = clash (cc (ap resting e))

  wait : {n : ℕ} {b : Began} {pl : Spot} → GoesOn n pl → Asked n b pl → Asked (suc n) b pl
  wait {n} {b} {pl} d a = record {
    early = omega (arith, a.early);
    serves = a.serves;
    walk = walk_wait n b.first pl a.walk;
    unswept = λ r. elim d [ inl x ↦ one_more (a.unswept r) x | inr e ↦ rests_not pl e r ];
  }

  looks_walk : (n a : ℕ) (to : Place) → Looks to → Walk n a (spot_of to)
  looks_walk n a Idle l = tt
  looks_walk n a (AddV k p c) l = tt
  looks_walk n a (RemV k p c) l = tt
  looks_walk n a (ConV k c) l = absurd l

  -- a walk begins now
  here : (a n : ℕ) (k : ℤ) → a ≤ n → Legal k → Stand a n k ((wd n).v.next 0)
  here a n k h l = record {
    when = n;
    low = h;
    high = omega arith;
    behind = 0;
    reached = stop refl;
    inner = λ z. omega arith;
    below = rw (fine s honest n).good.good.key_head l.low;
    leads = refl;
  }

  found_walk : (q : Kind) (n a : ℕ) (k l : ℤ) (u c : ℕ) → Legal l → Found a n k u → Found a n l c → Walk n a (look_at (wd n) q k l u c)
  found_walk adds n a k l u c b f g = (f, g)
  found_walk rems n a k l u c b f g = (f, g)
  found_walk cons n a k l u c b f g =
      (f, g, record { when = n; low = f.high; high = omega arith; behind = head; reached = stop refl; inner = λ z. clash (cc); below = b.low; leads = refl })

  goes_walk : (n a : ℕ) (pl to : Spot) → a ≤ n → (resting pl ≡ false → Span a n) → Goes (wd n) pl to → Walk n a pl → Walk n a to
  goes_walk n a pl to h x (settled t l f) w = looks_walk n a t l
  goes_walk n a pl to h x (con_on k c j m) w = stand_move 0 1 S sorted (span (x refl)) w m j
  goes_walk n a pl to h x (u_on q k l c j m) w = stand_move 0 1 S sorted (span (x refl)) w m j
  goes_walk n a pl to h x (u_found q k l c e m i b) w = (record { when = n; low = h; high = omega arith; inside = i; plain = m; holds = e }, here a n l h b)
  goes_walk n a pl to h x (v_on q k l u c j m) w = (w.0, stand_move 0 1 S sorted (span (x refl)) w.1 m j)
  goes_walk n a pl to h x (v_found q k l u c e m i b) w = found_walk q n a k l u c b w.0 (record { when = n; low = h; high = omega arith; inside = i; plain = m; holds = e })
  goes_walk n a pl to h x (e_looks b k l u v p r c d) w = w
  goes_walk n a pl to h x (e_walks k l u v c j m) w = (w.0, w.1, stand_move head (at 0) (F u) (fsorted u) (fspan u (x refl) w.0.when w.0.low) w.2 (λ z. m (cc)) j)
  goes_walk n a pl to h x (e_tries b k l u v p c e) w = w
  goes_walk n a pl to h x (e_trying k l u v e i j) w = w

  rested : {n : ℕ} {b : Began} → b.first ≤ n → Asked (suc n) b Rest
  rested h = record { early = omega arith; serves = tt; walk = tt; unswept = λ r. clash (cc) }

  stepped : (n : ℕ) (b : Began) (pl : Spot) (o : Next) → Both (wd n) (wd (suc n)) → Asked n b pl → Did (wd n) b.request pl o → Asked (suc n) b o.spot
  stepped n b pl o x a (does_on to d e k v m w) =
      wait (inl x) (record { early = a.early; serves = v; walk = goes_walk n b.first pl to a.early a.unswept w a.walk; unswept = λ r. a.unswept (busy_before w r) })
  stepped n b pl o x a (does_now r d m e) = rested a.early
  stepped n b pl o x a (does_out r d m e) = rested a.early
  stepped n b pl o x a (does_past r d m e w) = rested a.early

  takes_world : (n v : ℕ) (q : Ask) → s n ≡ takes v q → wd (suc n) ≡ wd n
  takes_world n v q e = ap (λ X. X.world) (conf_next n (takes v q) e) ∙ by (takable (conf s n).at v q)
    where
      by : (b : Bool) → (cond b (record { world = wd n; at = upd (conf s n).at v (starts (wd n) q) }) (conf s n)).world ≡ wd n
      by true = refl
      by false = refl

  stand_new : (n : ℕ) (W : World) → wd (suc n) ≡ W → (k : ℤ) → Legal k → Stand (suc n) (suc n) k (W.v.next 0)
  stand_new n W e k l = rw e at (here (suc n) (suc n) k (omega arith) l)

  new_span : (n : ℕ) {b : Bool} → b ≡ false → Span (suc n) (suc n)
  new_span n e i h l = absurd (omega arith)

  begun : (n : ℕ) (W : World) → wd (suc n) ≡ W → (q : Ask) → Legal (first_key q) → Asked (suc n) (record { first = suc n; request = q }) (starts W q)
  begun n W e (vert (addV k)) l = record { early = omega arith; serves = (addV k, refl, refl); walk = tt; unswept = new_span n }
  begun n W e (vert (remV k)) l = record { early = omega arith; serves = (remV k, refl, refl); walk = tt; unswept = new_span n }
  begun n W e (vert (conV k)) l = record { early = omega arith; serves = (conV k, refl, refl); walk = stand_new n W e k l; unswept = new_span n }
  begun n W e (addE k j) l = record { early = omega arith; serves = refl; walk = stand_new n W e k l; unswept = new_span n }
  begun n W e (remE k j) l = record { early = omega arith; serves = refl; walk = stand_new n W e k l; unswept = new_span n }
  begun n W e (conE k j) l = record { early = omega arith; serves = refl; walk = stand_new n W e k l; unswept = new_span n }

  done : (n v : ℕ) → Asked n (began s v n) ((conf s n).at v) → Did (wd n) (began s v n).request ((conf s n).at v) (move (wd n) ((conf s n).at v))
  done n v a = did (wd n) (fine s honest n).good (began s v n).request ((conf s n).at v) ((fine s honest n).ok v) a.serves

  itself : (n v : ℕ) → Both (wd n) (wd (suc n)) → Asked n (began s v n) ((conf s n).at v) → Asked (suc n) (began s v n) (move (wd n) ((conf s n).at v)).spot
  itself n v x a = stepped n (began s v n) ((conf s n).at v) (move (wd n) ((conf s n).at v)) x a (done n v a)

  next : (n w : ℕ) (ch : Choice) → s n ≡ ch → ((v : ℕ) → GoesOn n ((conf s n).at v)) → (((W : World) → ch ≡ sweeps W → ⊥) → Both (wd n) (wd (suc n)))
      → Asked n (began s w n) ((conf s n).at w)
      → Asked (suc n) (since (opens (conf s n) ch w) (suc n) (began s w n)) ((act (conf s n) ch).at w)
  next n w (steps v) e x y a =
      elim (same? w v) [
        | inl q ↦ rw (upd_at (conf s n).at v (move (wd n) ((conf s n).at v)).spot w q) (rw q (itself n v (y (λ W z. clash (cc))) (rw q at a)))
        | inr m ↦ rw (upd_other (conf s n).at v (move (wd n) ((conf s n).at v)).spot w m) (wait (x w) a)
      ]
  next n w (takes v q) e x y a = by (takable (conf s n).at v q) refl
    where
      by : (b : Bool) → takable (conf s n).at v q ≡ b
          → Asked (suc n) (since (cond (eqb v w && b) (some q) none) (suc n) (began s w n))
          ((cond b (record { world = wd n; at = upd (conf s n).at v (starts (wd n) q) }) (conf s n)).at w)
      by true f =
          let k = (and_true (ltb v 8) (resting ((conf s n).at v) && allowed q) f).1 in
          elim (same? w v) [
            | inl z ↦
                rw (eq-eqb v w (sym z), upd_at (conf s n).at v (starts (wd n) q) w z)
                (begun n (wd n) (takes_world n v q e) q (starts_legal q (and_true (resting ((conf s n).at v)) (allowed q) k).1))
            | inr d ↦ rw (ne_eqb v w (λ z. d (sym z)), upd_other (conf s n).at v (starts (wd n) q) w d) (wait (x w) a)
          ]
      by false f = elim (same? w v) [ inl z ↦ rw (eq-eqb v w (sym z)) (wait (x w) a) | inr d ↦ rw (ne_eqb v w (λ z. d (sym z))) (wait (x w) a) ]
  next n w (sweeps W) e x y a = by (all_rest 8 (conf s n).at)
    where
      by : (b : Bool) → Asked (suc n) (began s w n) ((cond b (record { world = W; at = (conf s n).at }) (conf s n)).at w)
      by true = wait (x w) a
      by false = wait (x w) a

  goes_on : (n v : ℕ) → GoesOn n ((conf s n).at v)
  goes_on n v = elim (moves s honest n) [ inl b ↦ inl b | inr r ↦ inr (r v) ]

  asked : (n w : ℕ) → Asked n (began s w n) ((conf s n).at w)
  unfolding conf began
  asked zero w = record { early = omega arith; serves = tt; walk = tt; unswept = λ r. clash (cc) }
  asked (suc n) w = next n w (s n) refl (goes_on n) (both_at s honest n) (asked n w)

  -- ---- replies that rest on the past

  -- at a moment within the call, alone, it would have been the same
  record Then (a n : ℕ) (q : Ask) (r : ℕ) : Type 0 where
    when : ℕ
    low : a ≤ when
    high : when ≤ n
    same : alone (graph (wd when)) q ≡ (r, graph (wd when))

  abbrev DeadK : ℕ → ℕ → ℤ → Type 0
  DeadK a n k = Dead 0 1 S sorted a n k

  dead_no : (t : ℕ) (k : ℤ) → (Live (S t) k → ⊥) → live (wd t).v k ≡ false
  dead_no t k d = present_no (wd t).v k (λ p. d (present_live p))

  not_there : (a n : ℕ) (k : ℤ) (c : ℕ) → Span a n → Stand a n k c → Missed (wd n).v k c → DeadK a n k
  not_there a n k c x w (inl m) = dead_marked 0 1 S sorted (span x) w m.0 m.1
  not_there a n k c x w (inr h) = dead_above 0 1 S sorted (span x) w h

  -- found, and marked by now
  killed : (a n : ℕ) (k : ℤ) (u : ℕ) → Span a n → Found a n k u → (wd n).v.marked u ≡ true → DeadK a n k
  killed a n k u x f m =
      let z = marked_between 0 1 S sorted a n (span x) f.when u f.low f.high f.inside f.plain m in
      record { when = suc z.event; low = omega (arith, z.low, f.low); high = z.high; dead = rw f.holds at z.dead }

  then_k : {a n : ℕ} (q : Kind) (k l : ℤ) → DeadK a n k → Then a n (ask_of q k l) (lost q)
  then_k q k l d = record { when = d.when; low = d.low; high = d.high; same = alone_k (wd d.when) (fine s honest d.when).good q k l (dead_no d.when k d.dead) }

  then_l : {a n : ℕ} (q : Kind) (k l : ℤ) → DeadK a n l → Then a n (ask_of q k l) (lost q)
  then_l q k l d = record { when = d.when; low = d.low; high = d.high; same = alone_l (wd d.when) (fine s honest d.when).good q k l (dead_no d.when l d.dead) }

  then_dead : {a n : ℕ} (q : Kind) (k l : ℤ) (u v : ℕ) → Span a n → Found a n k u → Found a n l v → DeadV (wd n) u v → Then a n (ask_of q k l) (lost q)
  then_dead {a} {n} q k l u v x f g (inl m) = then_k q k l (killed a n k u x f m)
  then_dead {a} {n} q k l u v x f g (inr m) = then_l q k l (killed a n l v x g m)

  edge_dead : (a b n : ℕ) (u : ℕ) (l : ℤ) (c : ℕ) → Span a n → a ≤ b → StandE u b n l (at c) → EMissed (wd n) l c → Dead head (at 0) (F u) (fsorted u) b n l
  edge_dead a b n u l c x k w (inl m) = dead_marked head (at 0) (F u) (fsorted u) (fspan u x b k) w m.0 m.1
  edge_dead a b n u l c x k w (inr h) = dead_above head (at 0) (F u) (fsorted u) (fspan u x b k) w h

  -- u is unmarked now, so it was the vertex of key k all the time since it was found
  then_edge : (a n : ℕ) (k l : ℤ) (u c : ℕ) → Span a n → 2 ≤ u → (f : Found a n k u) → (wd n).v.marked u ≡ false → StandE u f.when n l (at c) → EMissed (wd n) l c → Then a n (conE k l) 8
  then_edge a n k l u c x two f m w z =
      let d = edge_dead a f.when n u l c x f.low w z in
      let t = d.when in
      let i : IsV (wd t).v k u = record {
        low = two;
        high = stays_in 0 1 S sorted a n (span x) f.when t u f.low d.low d.high f.inside;
        holds = key_stays 0 1 S sorted a n (span x) f.when t u f.low d.low d.high f.inside ∙ f.holds;
      } in
      let p = plain_before 0 1 S sorted a n (span x) t u (omega (arith, f.low, d.low)) d.high i.high m in
      let e : edges (wd t) k l ≡ false = edge_no (wd t) k l (λ j. d.dead (listed (wd t) (fine s honest t).good u i p j)) in
      record { when = t; low = omega (arith, f.low, d.low); high = d.high; same = rw e }

  past : (n a : ℕ) (q : Ask) (pl : Spot) (r : ℕ) → (resting pl ≡ false → Span a n) → Misses (wd n) q pl r → Walk n a pl → Then a n q r
  past n a q pl r x (con_miss k c m) w =
      let d = not_there a n k c (x refl) w m in
      let t = d.when in
      record { when = t; low = d.low; high = d.high; same = rw (dead_no t k d.dead) (ap (λ h. (2, record { v = live (wd t).v; e = h })) (sym (same_between (wd t) (fine s honest t).good))) }
  past n a q pl r x (u_miss d k l c m) w = then_k d k l (not_there a n k c (x refl) w m)
  past n a q pl r x (v_miss d k l u c m) w = then_l d k l (not_there a n l c (x refl) w.1 m)
  past n a q pl r x (look_dead true k l u v p c m i) w = then_dead adds k l u v (x refl) w.0 w.1 m
  past n a q pl r x (look_dead false k l u v p c m i) w = then_dead rems k l u v (x refl) w.0 w.1 m
  past n a q pl r x (try_dead k l u v e h m i) w = then_dead adds k l u v (x refl) w.0 w.1 m
  past n a q pl r x (con_dead k l u v c m i) w = then_dead cons k l u v (x refl) w.0 w.1 m
  past n a q pl r x (edge_miss k l u v c m i z) w = then_edge a n k l u c (x refl) i.source.low w.0 m w.2 z

  -- ---- the events

  abbrev Ev : ℕ → Type 0
  Ev j = Event (By alone) counts (history s) j

  module _ (j v : ℕ) (e : s j ≡ steps v) where
    abbrev b : Began
    b = began s v j

    abbrev call : ℕ → Call Ask ℕ
    call r = record { first = b.first; request = b.request; reply = r }

    of_step : (pl : Spot) (o : Next) → Asked j b pl → answered s (suc j) ≡ close b o.answer → graph (wd (suc j)) ≡ graph o.world
        → Did (wd j) b.request pl o → Ev j
    of_step pl o a ans then (does_on to x l k z m w) = quiet (λ c z. clash (cc)) (then ∙ l)
    of_step pl o a ans then (does_now r x n q) = acts (call r) ans n a.early (q ∙ ap (λ g. (r, g)) (sym then))
    of_step pl o a ans then (does_out r x n q) = quiet (λ c z. let y : call r ≡ c = cc in rw (← y) n) (then ∙ q)
    of_step pl o a ans then (does_past r x n q m) =
        let t = past j b.first b.request pl r a.unswept m a.walk in
        looks (call r) ans n (then ∙ q) t.when t.low t.high t.same

    step_event : Ev j
    step_event =
        of_step ((conf s j).at v) (move (wd j) ((conf s j).at v)) (asked j v) (ap (said s j) e)
        (ap (λ X. graph X.world) (conf_next j (steps v) e)) (done j v (asked j v))

  pub happens : (j : ℕ) → Ev j
  happens j = by (s j) refl
    where
      swept : (W : World) → s j ≡ sweeps W → (b : Bool) → graph (cond b (record { world = W; at = (conf s j).at }) (conf s j)).world ≡ graph (wd j)
      swept W e true = (honest j W e (fine s honest j).good).2
      swept W e false = refl

      by : (ch : Choice) → s j ≡ ch → Ev j
      by (takes v q) e = quiet (λ c z. clash (cc (ap (said s j) e))) (ap graph (takes_world j v q e))
      by (steps v) e = step_event j v e
      by (sweeps W) e = quiet (λ c z. clash (cc (ap (said s j) e))) (ap (λ X. graph X.world) (conf_next j (sweeps W) e) ∙ swept W e (all_rest 8 (conf s j).at))
