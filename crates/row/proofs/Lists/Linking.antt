-- A node put into a list, one passed over, and one marked: the list is still sorted,
-- and each is one of the moves that hindsight asks for. It serves the vertex list and each edge list.
use mathlib.Core.Bool.{Bool, true, false}
use mathlib.Core.Path.{◌≡◌, refl, sym, ap, ◌∙◌}
use mathlib.Core.Logic.{◌⊎◌, inl, inr}
use lib.Signed.{◌<ℤ◌}
use Rattle.laws.proofs.Picks.{clash}
use Rattle.row.proofs.Base.{<ℤ-trans}
use Rattle.row.proofs.Lists.LinkLaws.{run_trans, run_tail, run_fold}
use Rattle.row.specs.Lists.Links.{Run, stop, go, View, Reached, Follows, Sorted}
use Rattle.row.proofs.Lists.Hindsight.{Moves}

-- ---- a node put in

-- the node `new` has come between p and its next
pub record New {N : Type 0} (tl : N) (C D : View N) (new p : N) : Type 0 where
  pub p_in : C.mine p
  pub p_inner : p ≡ tl → ⊥
  pub p_plain : C.marked p ≡ false
  pub p_next : D.next p ≡ new
  pub new_in : D.mine new
  pub new_inner : new ≡ tl → ⊥
  pub new_next : D.next new ≡ C.next p
  pub below : C.key p <ℤ D.key new
  pub above : D.key new <ℤ C.key (C.next p)

-- a list into which `new` was put, or which has nothing of it
pub record Put {N : Type 0} (tl : N) (C D : View N) (new : N) : Type 0 where
  pub stays : (x : N) → C.mine x → D.mine x
  pub key_kept : (x : N) → C.mine x → D.key x ≡ C.key x
  pub mark_same : (x : N) → C.mine x → D.marked x ≡ C.marked x
  pub turned : (x : N) → C.mine x → (D.next x ≡ C.next x) ⊎ New tl C D new x
  pub which : (x : N) → D.mine x → C.mine x ⊎ ((x ≡ new) × (p : N) × New tl C D new p)

module _ {N : Type 0} {hd tl new : N} {C D : View N} (s : Sorted hd tl C) (i : Put tl C D new) where
  remade : (b x : N) → C.mine x → (x ≡ tl → ⊥) → Run D.next tl b (C.next x) → Run D.next tl b x
  remade b x m n r =
      elim (i.turned x m) [
        | inl q ↦ go {a = x} n (rw q r)
        | inr w ↦ go {a = x} n (rw w.p_next (go {a = new} w.new_inner (rw w.new_next r)))
      ]

  run_kept : {x b : N} → C.mine x → Run C.next tl b x → Run D.next tl b x
  run_kept {b = b} m r = run_fold hd tl C s D.next b (remade b) m r

  pub put_sorted : Sorted hd tl D
  put_sorted = record { head_in = i.stays hd s.head_in; follows = follows'; linked = linked' }
    where
      old : (x : N) → C.mine x → (x ≡ tl → ⊥) → Follows D x (D.next x)
      old x m n =
          elim (i.turned x m) [
            | inl q ↦ let f = s.follows x m n in
                rw q (record { inside = i.stays _ f.inside; above = rw (i.key_kept x m, i.key_kept (C.next x) f.inside) f.above })
            | inr w ↦ rw w.p_next (record { inside = w.new_in; above = rw (i.key_kept x m) w.below })
          ]

      follows' : (x : N) → D.mine x → (x ≡ tl → ⊥) → Follows D x (D.next x)
      follows' x m n =
          elim (i.which x m) [
            | inl o ↦ old x o n
            | inr z ↦
                let w = z.2 in
                let f = s.follows z.1 w.p_in w.p_inner in
                rw (z.0, w.new_next) (record { inside = i.stays _ f.inside; above = rw (i.key_kept (C.next z.1) f.inside) w.above })
          ]

      linked' : (x : N) → D.mine x → D.marked x ≡ false → Reached hd tl D x
      linked' x m t =
          elim (i.which x m) [
            | inl o ↦ run_kept s.head_in (s.linked x o (sym (i.mark_same x o) ∙ t))
            | inr z ↦
                let w = z.2 in
                rw z.0 (run_trans (run_kept s.head_in (s.linked z.1 w.p_in w.p_plain)) (go {a = z.1} w.p_inner (stop w.p_next)))
          ]

  pub put_moves : Moves hd tl C D
  put_moves = record {
    stays = i.stays;
    key_kept = i.key_kept;
    mark_kept = λ x m t. i.mark_same x m ∙ t;
    link_kept = λ x m n. elim (i.turned x m) [ inl q ↦ inl q | inr w ↦ inr (i.mark_same x m ∙ w.p_plain) ];
    marks_linked = λ x m t z. clash (cc (i.mark_same x m));
    runs_kept = λ x y m r t. run_kept m r;
  }

-- ---- a node passed over

-- p passes over its next, a marked node, which keeps its link
pub record Over {N : Type 0} (C : View N) (nx : N → N) (p : N) : Type 0 where
  pub plain : C.marked p ≡ false
  pub gone : C.marked (C.next p) ≡ true
  pub over : nx p ≡ C.next (C.next p)
  pub left : nx (C.next p) ≡ C.next (C.next p)

abbrev pub relinked : {N : Type 0} → View N → (N → N) → View N
relinked C nx = record { next = nx; marked = C.marked; key = C.key; mine = C.mine }

module _ {N : Type 0} {hd tl : N} (C : View N) (nx : N → N) (s : Sorted hd tl C) (tail_plain : C.marked tl ≡ false)
    (turned : (x : N) → C.mine x → (nx x ≡ C.next x) ⊎ Over C nx x) where
  run_past : {x b : N} → C.mine x → Run C.next tl b x → C.marked b ≡ false → Run nx tl b x
  run_past {b = b} m r t = run_fold hd tl C s nx b by m r
    where
      by : (x : N) → C.mine x → (x ≡ tl → ⊥) → Run nx tl b (C.next x) → Run nx tl b x
      by x m n r =
          elim (turned x m) [
            | inl q ↦ go {a = x} n (rw q r)
            | inr w ↦ go {a = x} n (rw w.over (rw w.left at (run_tail (λ e. clash (cc (w.gone, ap C.marked e))) r)))
          ]

  pub past_sorted : Sorted hd tl (relinked C nx)
  past_sorted = record { head_in = s.head_in; follows = follows'; linked = λ x m t. run_past s.head_in (s.linked x m t) t }
    where
      follows' : (x : N) → C.mine x → (x ≡ tl → ⊥) → Follows (relinked C nx) x (nx x)
      follows' x m n =
          let f = s.follows x m n in
          elim (turned x m) [
            | inl q ↦ rw q (record { inside = f.inside; above = f.above })
            | inr w ↦
                let h = s.follows (C.next x) f.inside (λ e. clash (cc (w.gone, tail_plain, ap C.marked e))) in
                rw w.over (record { inside = h.inside; above = <ℤ-trans f.above h.above })
          ]

  pub past_moves : Moves hd tl C (relinked C nx)
  past_moves = record {
    stays = λ x m. m;
    key_kept = λ x m. refl;
    mark_kept = λ x m t. t;
    link_kept = λ x m n. elim (turned x m) [ inl q ↦ inl q | inr w ↦ inr w.plain ];
    marks_linked = λ x m t z. clash (cc);
    runs_kept = λ x y m r t. run_past m r t;
  }

-- ---- a node marked, or nothing

abbrev pub remarked : {N : Type 0} → View N → (N → Bool) → View N
remarked C mk = record { next = C.next; marked = mk; key = C.key; mine = C.mine }

module _ {N : Type 0} {hd tl : N} (C : View N) (mk : N → Bool) (s : Sorted hd tl C) (down : (x : N) → mk x ≡ false → C.marked x ≡ false) where
  pub mark_sorted : Sorted hd tl (remarked C mk)
  mark_sorted = record {
    head_in = s.head_in;
    follows = λ x m n. let f = s.follows x m n in record { inside = f.inside; above = f.above };
    linked = λ x m t. s.linked x m (down x t);
  }

  pub mark_moves : Moves hd tl C (remarked C mk)
  mark_moves = record {
    stays = λ x m. m;
    key_kept = λ x m. refl;
    mark_kept = λ x m t. by x t (mk x) refl;
    link_kept = λ x m n. inl refl;
    marks_linked = λ x m t z. s.linked x m t;
    runs_kept = λ x y m r t. r;
  }
    where
      by : (x : N) → C.marked x ≡ true → (b : Bool) → mk x ≡ b → mk x ≡ true
      by x t true e = e
      by x t false e = clash (cc (down x e))

pub rest_moves : {N : Type 0} {hd tl : N} {C : View N} → Sorted hd tl C → Moves hd tl C C
rest_moves {C = C} s = mark_moves C C.marked s (λ x t. t)
