-- The vertex list: node 0 the head, 1 the tail, 2 .. used - 1 handed out.
-- Its three changes, and when each may be made.
use Rattle.std.specs.Prelude.{ℕ, suc, ◌≤◌, ◌<◌, Bool, true, false, ◌≡◌, ℤ, ◌<ℤ◌}
use Rattle.catalogue.specs.Tests.{upd}
use Rattle.catalogue.specs.Numbers.{least, greatest}
use Rattle.row.specs.Lists.Links.{View, Sorted}

pub record Cat : Type 0 where
  pub next : ℕ → ℕ
  pub marked : ℕ → Bool
  pub key : ℕ → ℤ
  pub used : ℕ

abbrev pub view : Cat → View ℕ
view C = record { next = C.next; marked = C.marked; key = C.key; mine = λ x. x < C.used }

-- the node `used`, with key k, comes between p and its next
abbrev pub insert : Cat → ℕ → ℤ → Cat
insert C p k = record {
  next = upd (upd C.next C.used (C.next p)) p C.used;
  marked = upd C.marked C.used false;
  key = upd C.key C.used k;
  used = suc C.used;
}

-- p passes over its next
abbrev pub unlink : Cat → ℕ → Cat
unlink C p = record { next = upd C.next p (C.next (C.next p)); marked = C.marked; key = C.key; used = C.used }

abbrev pub mark : Cat → ℕ → Cat
mark C x = record { next = C.next; marked = upd C.marked x true; key = C.key; used = C.used }

-- p is unmarked, and no tail
pub record Inner (C : Cat) (p : ℕ) : Type 0 where
  pub high : p < C.used
  pub inner : p ≡ 1 → ⊥
  pub plain : C.marked p ≡ false

pub record Fits (C : Cat) (p : ℕ) (k : ℤ) : Type 0 where
  pub inside : Inner C p
  pub below : C.key p <ℤ k
  pub above : k <ℤ C.key (C.next p)

pub record Gone (C : Cat) (p : ℕ) : Type 0 where
  pub inside : Inner C p
  pub gone : C.marked (C.next p) ≡ true

pub record Stands (C : Cat) (x : ℕ) : Type 0 where
  pub low : 2 ≤ x
  pub high : x < C.used
  pub plain : C.marked x ≡ false

pub data Step (C : Cat) : Cat → Type 0 where
  rests : Step C C
  inserts : (p : ℕ) (k : ℤ) → Fits C p k → Step C (insert C p k)
  unlinks : (p : ℕ) → Gone C p → Step C (unlink C p)
  marks : (x : ℕ) → Stands C x → Step C (mark C x)

pub record Sound (C : Cat) : Type 0 where
  pub some : 2 ≤ C.used
  pub sorted : Sorted 0 1 (view C)
  pub head_plain : C.marked 0 ≡ false
  pub tail_plain : C.marked 1 ≡ false

pub record Good (C : Cat) : Type 0 where
  pub sound : Sound C
  pub key_head : C.key 0 ≡ least
  pub key_tail : C.key 1 ≡ greatest
