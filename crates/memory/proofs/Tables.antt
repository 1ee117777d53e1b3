-- A table of a function's values, as a list: what stands in it and after it, and what a store makes of it.
use Prim.Native.Nat.{ℕ, zero, suc, ◌+◌, ◌<◌}
use mathlib.Core.Bool.{Bool, true, false}
use mathlib.Core.List.{List, [], ◌∷◌, ◌++◌}
use mathlib.Core.Path.{◌≡◌, refl, sym, ap, ◌∙◌}
use native.Mathlib.Omega.{arith}
use native.Mathlib.Nat.{zero-add, suc-add}
use lib.ListN.{length, get_or, set, length-set, get_or-append}
use lib.Seq.{ext_get_or, get_or-set_same, get_or-set_other, get_or-append-add, set-append_left}
use lib.Dec.{eqb}
use borrow.Author.Tests.{eqb-true, eqb-false}
use Rattle.catalogue.specs.Tests.{pick, upd, table_from}
use Rattle.laws.proofs.Gathers.{length_table}

module _ {A : Type 0} where
  table_at : (f : ℕ → A) (from n i : ℕ) (d : A) → i < n → get_or (table_from f from n) i d ≡ f (from + i)
  unfolding table_from
  table_at f from zero i d h = absurd (omega arith)
  table_at f from (suc n) zero d h = ap f (omega arith)
  table_at f from (suc n) (suc i) d h = table_at f (suc from) n i d (omega arith) ∙ ap f (omega arith)

  -- a store, as another function of the index
  pub get_or_set : (l : List A) (i j : ℕ) (v d : A) → i < length l → get_or (set l i v) j d ≡ upd (λ k. get_or l k d) i v j
  unfolding upd
  get_or_set l i j v d h = by (eqb j i) refl
    where
      by : (t : Bool) → eqb j i ≡ t → get_or (set l i v) j d ≡ upd (λ k. get_or l k d) i v j
      by true e = rw (e, eqb-true j i e) (get_or-set_same l i v d h)
      by false e = rw e (get_or-set_other l i j v d (eqb-false j i e))

  set_append_add : (xs ys : List A) (i : ℕ) (v : A) → set (xs ++ ys) (length xs + i) v ≡ xs ++ set ys i v
  set_append_add [] ys i v = ap (λ k. set ys k v) (zero-add i)
  set_append_add (x ∷ xs) ys i v = rw (suc-add (length xs) i) (ap (λ r. x ∷ r) (set_append_add xs ys i v))

  -- the tables of the lent memory begin at number 0
  pub get_or_table : (f : ℕ → A) (n i : ℕ) (d : A) → i < n → get_or (table_from f 0 n) i d ≡ f i
  get_or_table f n i d h = table_at f 0 n i d h ∙ ap f (zero-add i)

  pub set_table : (f : ℕ → A) (n i : ℕ) (v : A) → i < n → set (table_from f 0 n) i v ≡ table_from (upd f i v) 0 n
  unfolding upd
  set_table f n i v h =
      ext_get_or v (set (table_from f 0 n) i v) (table_from (upd f i v) 0 n) (simp (length-set, length_table))
      (λ j b. stored j (simp (length-set, length_table) at b))
    where
      stored : (j : ℕ) → j < n → get_or (set (table_from f 0 n) i v) j v ≡ get_or (table_from (upd f i v) 0 n) j v
      stored j b =
          get_or_set (table_from f 0 n) i j v v (rw length_table h) ∙ ap (pick (eqb j i) v) (get_or_table f n j v b) ∙ sym (get_or_table (upd f i v) n j v b)

  module _ (f : ℕ → A) (n i : ℕ) (r : List A) where
    pub get_or_front : (d : A) → i < n → get_or (table_from f 0 n ++ r) i d ≡ f i
    get_or_front d h = get_or-append (table_from f 0 n) r d i (rw length_table h) ∙ get_or_table f n i d h

    pub get_or_behind : (d : A) → get_or (table_from f 0 n ++ r) (n + i) d ≡ get_or r i d
    get_or_behind d = rw length_table at (get_or-append-add (table_from f 0 n) r i d)

    pub set_front : (v : A) → i < n → set (table_from f 0 n ++ r) i v ≡ table_from (upd f i v) 0 n ++ r
    set_front v h = set-append_left (table_from f 0 n) r i v (rw length_table h) ∙ ap (λ t. t ++ r) (set_table f n i v h)

    pub set_behind : (v : A) → set (table_from f 0 n ++ r) (n + i) v ≡ table_from f 0 n ++ set r i v
    set_behind v = rw length_table at (set_append_add (table_from f 0 n) r i v)
