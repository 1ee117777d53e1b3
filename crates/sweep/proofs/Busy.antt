-- Whether a worker below a number is busy, by the workers from the first on.
use Rattle.std.proofs.Common.{ℕ, zero, suc, ◌+◌, ◌≤◌, ◌≡◌, refl, sym, ◌∙◌, ap, Bool, true, false, ◌||◌, take, length, arith}
use native.Mathlib.Numerals.{add-one}
use Rattle.std.specs.List.{list_any}
use Rattle.std.proofs.lemmas.List.Folds.{list_any_more}
use Rattle.catalogue.specs.Tests.{pick}
use Rattle.catalogue.specs.Workers.{blank, busy, busy_at}
use Rattle.catalogue.specs.Sweep.{any_busy}
use Rattle.catalogue.specs.declared.workers.Table.{Table}
use Rattle.catalogue.specs.declared.workers.Worker.{Worker}

abbrev pub works : Worker → Bool
works w = busy_at w.place

last_first : (a b : Bool) → (a || b) ≡ pick b true a
last_first true true = refl
last_first true false = refl
last_first false true = refl
last_first false false = refl

pub busy_any : (t : Table) (n : ℕ) → n ≤ length t.workers → list_any works (take n t.workers) ≡ any_busy t n
unfolding any_busy
busy_any t zero h = refl
busy_any t (suc n) h =
    let next : list_any works (take (n + 1) t.workers) ≡ (list_any works (take n t.workers) || busy t n) = list_any_more works t.workers n blank (omega arith) in
    ap (λ k. list_any works (take k t.workers)) (sym (add-one n)) ∙ next ∙ last_first (list_any works (take n t.workers)) (busy t n) ∙ ap (pick (busy t n) true) (busy_any t n (omega arith))
