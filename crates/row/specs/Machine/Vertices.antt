-- The vertex operations AddV, RemV and ConV, step by step; the live set, and what a call does to it alone.
-- Nothing is proved here.
use Rattle.std.specs.Prelude.{ℕ, zero, suc, Bool, true, false, cond, not, ◌&&◌, ℤ, eqb, leb}
use Rattle.std.proofs.Math.Option.{Option, none, some}
use Rattle.std.specs.Int.Signed.{lt_z}
use Rattle.catalogue.specs.Tests.{eq_z}
use Rattle.catalogue.specs.Numbers.{least, greatest}
use Rattle.row.specs.Lists.Store.{Cat, insert, unlink, mark}

pub data Request : Type 0 where
  addV remV conV : ℤ → Request

abbrev pub key_of : Request → ℤ
key_of (addV k) = k
key_of (remV k) = k
key_of (conV k) = k

-- where a worker stands: the key, previous p, current c
pub data Place : Type 0 where
  Idle : Place
  AddV RemV : ℤ → ℕ → ℕ → Place
  ConV : ℤ → ℕ → Place

pub record Out : Type 0 where
  pub cat : Cat
  pub place : Place
  pub answer : Option ℕ

abbrev pub going : Cat → Place → Out
going C p = record { cat = C; place = p; answer = none }

abbrev pub replies : Cat → ℕ → Out
replies C r = record { cat = C; place = Idle; answer = some r }

-- ---- one step

pub data Seen : Type 0 where
  again passes onward settle : Seen

abbrev pub look : Cat → ℤ → ℕ → ℕ → Seen
look C k p c =
    cond (eqb (C.next p) c && not (C.marked p))
    (cond (C.marked c) passes
    (cond (lt_z (C.key c) k) onward settle))
    again

abbrev pub add : Cat → ℤ → ℕ → ℕ → Seen → Out
add C k p c again = going C (AddV k 0 (C.next 0))
add C k p c passes = going (unlink C p) (AddV k p (C.next c))
add C k p c onward = going C (AddV k c (C.next c))
add C k p c settle = cond (eq_z (C.key c) k) (replies C 2) (cond (leb 256 C.used) (replies C 9) (replies (insert C p k) 1))

abbrev pub rem : Cat → ℤ → ℕ → ℕ → Seen → Out
rem C k p c again = going C (RemV k 0 (C.next 0))
rem C k p c passes = going (unlink C p) (RemV k p (C.next c))
rem C k p c onward = going C (RemV k c (C.next c))
rem C k p c settle = cond (eq_z (C.key c) k) (replies (mark C c) 1) (replies C 2)

abbrev pub step : Cat → Place → Out
step C Idle = going C Idle
step C (AddV k p c) = add C k p c (look C k p c)
step C (RemV k p c) = rem C k p c (look C k p c)
step C (ConV k c) =
    cond (lt_z (C.key c) k) (going C (ConV k (C.next c)))
    (cond (eq_z (C.key c) k && not (C.marked c)) (replies C 1) (replies C 2))

-- ---- taking up

abbrev pub begin : Cat → Request → Place
begin C (addV k) = AddV k 0 (C.next 0)
begin C (remV k) = RemV k 0 (C.next 0)
begin C (conV k) = ConV k (C.next 0)

abbrev pub fits_key : ℤ → Bool
fits_key k = lt_z least k && lt_z k greatest

abbrev pub legal : Request → Bool
legal q = fits_key (key_of q)

-- the list at first: head and tail
abbrev pub fresh : Cat
fresh = record { next = λ x. cond (eqb x 0) 1 0; marked = λ x. false; key = λ x. cond (eqb x 0) least greatest; used = 2 }

-- ---- the live set, and a call alone

abbrev pub is_live : (ℕ → Bool) → (ℕ → ℤ) → ℤ → ℕ → Bool
is_live marked key k x = leb 2 x && (not (marked x) && eq_z (key x) k)

-- an unmarked node below n has key k
unfoldable pub has : (ℕ → Bool) → (ℕ → ℤ) → ℤ → ℕ → Bool
has marked key k zero = false
has marked key k (suc x) = cond (is_live marked key k x) true (has marked key k x)

abbrev pub live : Cat → ℤ → Bool
live C k = has C.marked C.key k C.used

abbrev pub put : (ℤ → Bool) → ℤ → Bool → ℤ → Bool
put g k b j = cond (eq_z j k) b (g j)

abbrev pub sequential : (ℤ → Bool) → Request → ℕ × (ℤ → Bool)
sequential g (addV k) = cond (g k) (2, g) (1, put g k true)
sequential g (remV k) = cond (g k) (1, put g k false) (2, g)
sequential g (conV k) = (cond (g k) 1 2, g)
