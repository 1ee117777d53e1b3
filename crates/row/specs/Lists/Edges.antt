-- The edge lists: node 0 the tail of each, 1 .. used - 1 handed out;
-- `owner`, a ghost that no step reads, says whose list a node is in.
-- Their three changes, and when each may be made.
use Rattle.std.specs.Prelude.{ℕ, suc, ◌≤◌, ◌<◌, Bool, true, false, ◌≡◌, ◌⊎◌, ℤ, ◌<ℤ◌}
use Rattle.catalogue.specs.Tests.{upd}
use Rattle.row.specs.Lists.Links.{View, Sorted}
use Rattle.catalogue.specs.Numbers.{least}

pub data Tag : Type 0 where
  marked transit added : Tag

-- a place of a list: its first link, or a node
pub data Prev : Type 0 where
  head : Prev
  at : ℕ → Prev

pub record Edges : Type 0 where
  pub first : ℕ → ℕ
  pub next : ℕ → ℕ
  pub tag : ℕ → Tag
  pub key : ℕ → ℤ
  pub target : ℕ → ℕ
  pub owner : ℕ → ℕ
  pub used : ℕ

abbrev pub is_marked : Tag → Bool
is_marked marked = true
is_marked transit = false
is_marked added = false

-- (these by cases are over the fields that they read: a change that keeps the field keeps them as they are)
abbrev pub link_of : (ℕ → ℕ) → (ℕ → ℕ) → ℕ → Prev → ℕ
link_of first next u head = first u
link_of first next u (at e) = next e

abbrev pub link : Edges → ℕ → Prev → ℕ
link E = link_of E.first E.next

abbrev pub tag_at : (ℕ → Tag) → Prev → Bool
tag_at f head = false
tag_at f (at e) = is_marked (f e)

abbrev pub key_at : (ℕ → ℤ) → Prev → ℤ
key_at f head = least
key_at f (at e) = f e

pub record Owned (owner : ℕ → ℕ) (used u e : ℕ) : Type 0 where
  pub low : 1 ≤ e
  pub high : e < used
  pub own : owner e ≡ u

abbrev pub InList : Edges → ℕ → ℕ → Type 0
InList E = Owned E.owner E.used

abbrev pub MineOf : (ℕ → ℕ) → ℕ → ℕ → Prev → Type 0
MineOf owner used u head = Unit {0}
MineOf owner used u (at e) = (e ≡ 0) ⊎ Owned owner used u e

abbrev pub Mine : Edges → ℕ → Prev → Type 0
Mine E = MineOf E.owner E.used

-- u's list, as hindsight sees a list
abbrev pub eview : Edges → ℕ → View Prev
eview E u = record { next = λ x. at (link E u x); marked = tag_at E.tag; key = key_at E.key; mine = Mine E u }

pub record ESound (E : Edges) : Type 0 where
  pub some : 1 ≤ E.used
  pub sorted : (u : ℕ) → Sorted head (at 0) (eview E u)
  pub tail_plain : is_marked (E.tag 0) ≡ false

-- ---- the changes

abbrev pub put_first : (ℕ → ℕ) → ℕ → Prev → ℕ → ℕ → ℕ
put_first f u head n = upd f u n
put_first f u (at p) n = f

abbrev pub put_next : (ℕ → ℕ) → Prev → ℕ → ℕ → ℕ
put_next f head n = f
put_next f (at p) n = upd f p n

abbrev pub einsert : Edges → ℕ → ℕ → ℤ → Prev → Edges
einsert E u v k p = record {
  first = put_first E.first u p E.used;
  next = put_next (upd E.next E.used (link E u p)) p E.used;
  tag = upd E.tag E.used transit;
  key = upd E.key E.used k;
  target = upd E.target E.used v;
  owner = upd E.owner E.used u;
  used = suc E.used;
}

abbrev pub eunlink : Edges → ℕ → Prev → Edges
eunlink E u p = record {
  first = put_first E.first u p (E.next (link E u p));
  next = put_next E.next p (E.next (link E u p));
  tag = E.tag;
  key = E.key;
  target = E.target;
  owner = E.owner;
  used = E.used;
}

abbrev pub retag : Edges → ℕ → Tag → Edges
retag E e t = record { first = E.first; next = E.next; tag = upd E.tag e t; key = E.key; target = E.target; owner = E.owner; used = E.used }

pub record EInner (E : Edges) (u : ℕ) (p : Prev) : Type 0 where
  pub inside : Mine E u p
  pub inner : p ≡ at 0 → ⊥
  pub plain : tag_at E.tag p ≡ false

pub record EFits (E : Edges) (u : ℕ) (k : ℤ) (p : Prev) : Type 0 where
  pub place : EInner E u p
  pub below : key_at E.key p <ℤ k
  pub above : k <ℤ E.key (link E u p)

pub record EGone (E : Edges) (u : ℕ) (p : Prev) : Type 0 where
  pub place : EInner E u p
  pub gone : E.tag (link E u p) ≡ marked

-- a tag is changed: never from marked
pub record Turns (E : Edges) (e : ℕ) : Type 0 where
  pub low : 1 ≤ e
  pub high : e < E.used
  pub plain : is_marked (E.tag e) ≡ false

pub data EStep (E : Edges) : Edges → Type 0 where
  erests : EStep E E
  einserts : (u v : ℕ) (k : ℤ) (p : Prev) → EFits E u k p → EStep E (einsert E u v k p)
  eunlinks : (u : ℕ) (p : Prev) → EGone E u p → EStep E (eunlink E u p)
  retags : (e : ℕ) (t : Tag) → Turns E e → EStep E (retag E e t)
