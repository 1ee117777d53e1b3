-- Each step of a trial's search keeps what the search knows;
-- when its queue is empty, no walk over older edges leads from v to u.
use Prim.Native.Nat.{ℕ, ◌<◌}
use mathlib.Core.Bool.{true, false}
use mathlib.Core.Path.{◌≡◌, refl, sym, ap, ◌∙◌}
use mathlib.Core.Logic.{◌⊎◌, inl, inr}
use mathlib.Core.List.{List, [], ◌∷◌, ◌++◌}
use native.Mathlib.Omega.{arith}
use Rattle.laws.proofs.Picks.{clash}
use Rattle.row.proofs.Base.{upd_same, upd_at, upd_other, upd_true, same?}
use Rattle.row.proofs.Lists.LinkLaws.{run_tail}
use Rattle.row.specs.Lists.Links.{Run, stop, go}
use Rattle.catalogue.specs.Tests.{upd}
use Rattle.row.specs.Lists.Edges.{Tag, marked, transit, added, Prev, head, at, is_marked, Mine}
use Rattle.row.specs.Machine.World.{World, closed, opened, Hunt, hunt_from, stands_at, meets, took}
use Rattle.row.specs.Machine.Moves.{may_cross, crosses}
use Rattle.row.proofs.Tests.{and_true, not_true, not_false}
use Rattle.row.proofs.Graphs.Older.{end, via, LiveE, Older}
use Rattle.row.proofs.Graphs.Good.{WGood}
use Rattle.row.proofs.Steps.Spots.{Mem, Ahead, HuntOk}

-- a trial crosses the older edges without a mark
older_crossed : (t : Tag) (c e : ℕ) → is_marked t ≡ false → c < e → may_cross t c e ≡ true
older_crossed marked c e p i = clash (cc)
older_crossed transit c e p i = refl
older_crossed added c e p i = refl

-- where a trial crosses an edge, its target is unmarked and unmet
pub to_unmet : (W : World) (e : ℕ) (h : Hunt) (c : ℕ) → crosses W e h c ≡ true → (W.v.marked (W.e.target c) ≡ false) × (h.met (W.e.target c) ≡ false)
to_unmet W e h c q =
    let z = and_true _ _ (and_true (may_cross (W.e.tag c) c e) _ q).1 in
    (not_true (W.v.marked (W.e.target c)) z.0, not_true (h.met (W.e.target c)) z.1)

-- where it passes an older live edge, it has met the target
to_met : (W : World) (e : ℕ) (h : Hunt) (c : ℕ) → crosses W e h c ≡ false → LiveE W c → c < e → h.met (W.e.target c) ≡ true
to_met W e h c q l i = not_false (h.met (W.e.target c)) (rw (older_crossed (W.e.tag c) c e l.plain i, l.target) at q)

pub hunt_start : (W : World) (u v e : ℕ) → HuntOk W u v e (hunt_from v)
hunt_start W u v e = record {
  kept = λ y m. elim (same? y v) [ inl q ↦ inr (inl q) | inr n ↦ clash (cc (upd_other (λ x. false) v true y n)) ];
  target_met = upd_same _ _ _;
  not_u = refl;
  covered = λ f l i t. clash (cc);
  place = tt;
}

mem_append : (y : ℕ) (xs ys : List ℕ) → Mem y xs → Mem y (xs ++ ys)
mem_append y [] ys m = absurd m
mem_append y (x ∷ xs) ys (inl e) = inl e
mem_append y (x ∷ xs) ys (inr m) = inr (mem_append y xs ys m)

mem_last : (y : ℕ) (xs : List ℕ) → Mem y (xs ++ (y ∷ []))
mem_last y [] = inl refl
mem_last y (x ∷ xs) = inr (mem_last y xs)

run_end : {nx : Prev → Prev} {b a : Prev} → a ≡ at 0 → Run nx (at 0) b a → a ≡ b
run_end z (stop e) = e
run_end z (go k r) = absurd (k z)

module _ (W : World) (g : WGood W) (u v e : ℕ) (h : Hunt) (o : HuntOk W u v e h) where
  -- while no vertex is open, the target of each older live edge of a vertex that was taken is met
  shut_met : h.stand ≡ closed → (f : ℕ) → LiveE W f → f < e → h.taken (W.e.owner f) ≡ true → h.met (W.e.target f) ≡ true
  shut_met s f l i t = elim (o.covered f l i t) [ inl m ↦ m | inr a ↦ absurd (shut (rw s at a)) ]
    where
      shut : Ahead W closed f → ⊥
      shut a = a

  -- close the open vertex
  pub hunt_close : (x c : ℕ) → h.stand ≡ opened x c → (W.v.marked x ≡ true) ⊎ (c ≡ 0) → HuntOk W u v e (stands_at h closed)
  hunt_close x c s d = record { kept = o.kept; target_met = o.target_met; not_u = o.not_u; place = tt; covered = covered' }
    where
      none_ahead : (f : ℕ) → LiveE W f → (W.v.marked x ≡ true) ⊎ (c ≡ 0) → Ahead W (opened x c) f → ⊥
      none_ahead f l (inl m) a = clash (cc (l.source, ap W.v.marked a.0))
      none_ahead f l (inr z) a = let q : at c ≡ at f = run_end (ap at z) a.1 in let r : c ≡ f = cc in omega (arith, l.low)

      covered' : (f : ℕ) → LiveE W f → f < e → h.taken (W.e.owner f) ≡ true → (h.met (W.e.target f) ≡ true) ⊎ ⊥
      covered' f l i t = elim (o.covered f l i t) [ inl m ↦ inl m | inr a ↦ absurd (none_ahead f l d (rw s at a)) ]

  module _ (x c : ℕ) (s : h.stand ≡ opened x c) (n : c ≡ 0 → ⊥) where
    c_in : Mine W.e x (at c)
    c_in = rw s at o.place

    next_in : Mine W.e x (at (W.e.next c))
    next_in = ((g.esound.sorted x).follows (at c) c_in (λ z. n (cc))).inside

    -- past c
    ahead_on : (f : ℕ) → Ahead W (opened x c) f → (f ≡ c) ⊎ Ahead W (opened x (W.e.next c)) f
    ahead_on f a = elim (same? f c) [ inl q ↦ inl q | inr m ↦ inr (a.0, run_tail (λ z. m (cc)) a.1) ]

    pub hunt_pass : crosses W e h c ≡ false → HuntOk W u v e (stands_at h (opened x (W.e.next c)))
    hunt_pass k = record { kept = o.kept; target_met = o.target_met; not_u = o.not_u; place = next_in; covered = covered' }
      where
        covered' : (f : ℕ) → LiveE W f → f < e → h.taken (W.e.owner f) ≡ true → (h.met (W.e.target f) ≡ true) ⊎ Ahead W (opened x (W.e.next c)) f
        covered' f l i t =
            elim (o.covered f l i t) [
              | inl m ↦ inl m
              | inr a ↦ elim (ahead_on f (rw s at a)) [ inl q ↦ inl (rw q (to_met W e h c k (rw q at l) (rw q at i))) | inr b ↦ inr b ]
            ]

    pub hunt_meet : HuntOk W u v e (meets h (W.e.target c) (opened x (W.e.next c)))
    hunt_meet = record {
      kept = λ y m. elim (same? y (W.e.target c)) [
        | inl q ↦ inr (rw q (mem_last (W.e.target c) h.todo))
        | inr d ↦ elim (o.kept y (sym (upd_other _ _ _ _ d) ∙ m)) [ inl t ↦ inl t | inr z ↦ inr (mem_append y h.todo _ z) ]
      ];
      target_met = upd_true h.met (W.e.target c) v o.target_met;
      not_u = o.not_u;
      place = next_in;
      covered = covered';
    }
      where
        covered' : (f : ℕ) → LiveE W f → f < e → h.taken (W.e.owner f) ≡ true → (upd h.met (W.e.target c) true (W.e.target f) ≡ true) ⊎ Ahead W (opened x (W.e.next c)) f
        covered' f l i t =
            elim (o.covered f l i t) [
              | inl m ↦ inl (upd_true h.met (W.e.target c) (W.e.target f) m)
              | inr a ↦ elim (ahead_on f (rw s at a)) [ inl q ↦ inl (upd_at _ _ _ _ (ap W.e.target q)) | inr b ↦ inr b ]
            ]

  -- take the front
  module _ (s : h.stand ≡ closed) (x : ℕ) (xs : List ℕ) (q : h.todo ≡ x ∷ xs) (d : x ≡ u → ⊥) where
    taken_kept : (y : ℕ) → h.met y ≡ true → (upd h.taken x true y ≡ true) ⊎ Mem y xs
    taken_kept y m = by (o.kept y m)
      where
        by : (h.taken y ≡ true) ⊎ Mem y h.todo → (upd h.taken x true y ≡ true) ⊎ Mem y xs
        by (inl t) = inl (upd_true h.taken x y t)
        by (inr z) = in_list (rw q at z)
          where
            in_list : Mem y (x ∷ xs) → (upd h.taken x true y ≡ true) ⊎ Mem y xs
            in_list (inl r) = inl (upd_at _ _ _ _ r)
            in_list (inr r) = inr r

    taken_u : upd h.taken x true u ≡ false
    taken_u = upd_other _ _ _ _ (λ z. d (sym z)) ∙ o.not_u

    pub hunt_drop : W.v.marked x ≡ true → HuntOk W u v e (took h x xs closed)
    hunt_drop m = record { kept = taken_kept; target_met = o.target_met; not_u = taken_u; place = tt; covered = covered' }
      where
        covered' : (f : ℕ) → LiveE W f → f < e → upd h.taken x true (W.e.owner f) ≡ true → (h.met (W.e.target f) ≡ true) ⊎ ⊥
        covered' f l i t =
            elim (same? (W.e.owner f) x) [
              | inl z ↦ clash (cc (l.source, ap W.v.marked z))
              | inr n ↦ inl (shut_met s f l i (sym (upd_other _ _ _ _ n) ∙ t))
            ]

    pub hunt_enter : HuntOk W u v e (took h x xs (opened x (W.e.first x)))
    hunt_enter = record { kept = taken_kept; target_met = o.target_met; not_u = taken_u; place = ((g.esound.sorted x).follows head tt (λ z. clash (cc))).inside; covered = covered' }
      where
        covered' : (f : ℕ) → LiveE W f → f < e → upd h.taken x true (W.e.owner f) ≡ true → (h.met (W.e.target f) ≡ true) ⊎ Ahead W (opened x (W.e.first x)) f
        covered' f l i t =
            elim (same? (W.e.owner f) x) [
              | inl z ↦
                  inr (sym z, run_tail (λ y. clash (cc)) ((g.esound.sorted x).linked (at f) (inr (record { low = l.low; high = l.high; own = z })) l.plain))
              | inr n ↦ inl (shut_met s f l i (sym (upd_other _ _ _ _ n) ∙ t))
            ]

  -- the queue is empty: what is met is closed, and u is not in it
  pub hunt_done : h.stand ≡ closed → h.todo ≡ [] → Older W e v u → ⊥
  hunt_done s q t = along v o.target_met t
    where
      is_taken : (y : ℕ) → h.met y ≡ true → h.taken y ≡ true
      is_taken y m = by (o.kept y m)
        where
          by : (h.taken y ≡ true) ⊎ Mem y h.todo → h.taken y ≡ true
          by (inl t) = t
          by (inr z) = absurd (empty (rw q at z))
            where
              empty : Mem y [] → ⊥
              empty z = z

      along : (x : ℕ) → h.met x ≡ true → Older W e x u → ⊥
      along x m (end z) = clash (cc (is_taken x m, o.not_u, ap h.taken z))
      along x m (via f p z r) = along (W.e.target f) (shut_met s f p.0 p.1 (is_taken (W.e.owner f) (rw (← z) at m))) r
