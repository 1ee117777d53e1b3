-- A table of numbers: its size, that it has eight records, and all of them read back.
use Prim.Native.Nat.{ℕ, zero, suc, ◌<◌}
use mathlib.Core.List.{List, [], ◌∷◌, map}
use mathlib.Core.Path.{◌≡◌, refl, sym, ◌∙◌, ap}
use native.Mathlib.Omega.{arith}
use lib.ListN.{length, get_or, length-map}
use mir.Val.{Val}
use prog.Memory.{size}
use denote.Laws.{Is}
use denote.Memory.{lone}
use denote.Struct.Laws as LL
use Rattle.std.proofs.lemmas.List.{ext_get_or, get_or-map}
use Rattle.catalogue.specs.Workers.{blank}
use Rattle.catalogue.specs.declared.workers.Worker.{Worker}
use Rattle.catalogue.specs.declared.workers.Table.{Table}
use Rattle.border.specs.Kept.{worker_in, table_in, record_at, empty, table_size}
use Rattle.border.specs.declared.kept.Kept.{Kept}
use Rattle.border.specs.contracts.kept.Kept as K
use Rattle.border.proofs.kept.Kept.TheLaws as K'

-- the stated size is that of the table's layout
pub table_sized : table_size ≡ size (lone (K.the_row).mir)
table_sized = refl

-- a table that is there has eight records
pub eight_records : (t : Kept) (v : Val) → Is K.the_row t (v ∷ []) → length t.records ≡ 8
eight_records t v is = (LL.owed K.the_type K'.the_laws t (v ∷ []) is).1.0.1.0.1

-- so many members of a list, from a number on
abbrev members_from : {A : Type 0} → A → List A → ℕ → ℕ → List A
members_from d l i zero = []
members_from d l i (suc n) = get_or l i d ∷ members_from d l (suc i) n

behind_one : {A : Type 0} (d x : A) (l : List A) (i n : ℕ) → members_from d l i n ≡ members_from d (x ∷ l) (suc i) n
behind_one d x l i zero = refl
behind_one d x l i (suc n) = ap (λ r. get_or l i d ∷ r) (behind_one d x l (suc i) n)

-- a list is that of its members by their numbers
all_members : {A : Type 0} (d : A) (l : List A) (n : ℕ) → length l ≡ n → l ≡ members_from d l 0 n
all_members d [] zero e = refl
all_members d (x ∷ l) zero e = absurd (omega (arith, e))
all_members d [] (suc n) e = absurd (omega (arith, e))
all_members d (x ∷ l) (suc n) e = ap (λ r. x ∷ r) (all_members d l n (omega (arith, e)) ∙ behind_one d x l 0 n)

-- eight workers that are each a record read back are the table's
pub all_read : (t : Kept) (workers : List Worker) → length t.records ≡ 8 → length workers ≡ 8
    → ((n : ℕ) → n < 8 → get_or workers n blank ≡ worker_in (record_at t n))
    → ◌≡◌ {A = Table} (record { count = t.count; workers = workers }) (table_in t)
all_read t workers records long each =
    let same : workers ≡ map worker_in t.records =
    ext_get_or blank workers (map worker_in t.records) (simp length-map (long ∙ sym records))
    (λ n low. each n (omega arith) ∙ sym (get_or-map worker_in t.records n empty blank (omega arith))) in
    ap (λ (l : List Worker). record { count = t.count; workers = l }) same

-- The same of eight that are told one by one.
pub all_eight : (t : Kept) (workers : List Worker) → length t.records ≡ 8 → length workers ≡ 8
    → get_or workers 0 blank ≡ worker_in (record_at t 0) → get_or workers 1 blank ≡ worker_in (record_at t 1) → get_or workers 2 blank ≡ worker_in (record_at t 2)
    → get_or workers 3 blank ≡ worker_in (record_at t 3) → get_or workers 4 blank ≡ worker_in (record_at t 4) → get_or workers 5 blank ≡ worker_in (record_at t 5)
    → get_or workers 6 blank ≡ worker_in (record_at t 6) → get_or workers 7 blank ≡ worker_in (record_at t 7)
    → ◌≡◌ {A = Table} (record { count = t.count; workers = workers }) (table_in t)
all_eight t workers records long e0 e1 e2 e3 e4 e5 e6 e7 = all_read t workers records long each
  where
    each : (n : ℕ) → n < 8 → get_or workers n blank ≡ worker_in (record_at t n)
    each zero low = e0
    each (suc zero) low = e1
    each (suc (suc zero)) low = e2
    each (suc (suc (suc zero))) low = e3
    each (suc (suc (suc (suc zero)))) low = e4
    each (suc (suc (suc (suc (suc zero))))) low = e5
    each (suc (suc (suc (suc (suc (suc zero)))))) low = e6
    each (suc (suc (suc (suc (suc (suc (suc zero))))))) low = e7
    each (suc (suc (suc (suc (suc (suc (suc (suc n)))))))) low = absurd (omega arith)
