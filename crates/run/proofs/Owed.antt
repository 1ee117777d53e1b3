-- How many replies can still come: a worker owes one for each request that it has left, and one if it is busy.
use Prim.Native.Nat.{ℕ, zero, suc, ◌+◌, ◌≤◌, ◌<◌}
use mathlib.Core.List.{List, [], ◌∷◌}
use mathlib.Core.Path.{◌≡◌}
use native.Mathlib.Omega.{arith}
use lib.ListN.{length, get_or, set, drop, replicate, length-take}
use Rattle.catalogue.specs.Tests.{pick}
use Rattle.catalogue.specs.Run.{shares}
use Rattle.catalogue.specs.Script.{sum}
use Rattle.catalogue.specs.Workers.{busy_at, blank, idle}
use Rattle.catalogue.specs.declared.workers.Place.{Place}
use Rattle.catalogue.specs.declared.workers.Request.{Request}
use Rattle.catalogue.specs.declared.workers.Worker.{Worker}

abbrev pub one : Place → ℕ
one p = pick (busy_at p) 1 0

unfoldable pub owed : List Worker → List (List Request) → ℕ
owed ws [] = 0
owed [] (l ∷ ls) = length l + owed [] ls
owed (x ∷ ws) (l ∷ ls) = one x.place + length l + owed ws ls

-- one worker's part is another
pub owed_set : (ws : List Worker) (ls : List (List Request)) (w : ℕ) (x : Worker) (l : List Request) → w < length ws → w < length ls
    → owed (set ws w x) (set ls w l) + (one (get_or ws w blank).place + length (get_or ls w [])) ≡ owed ws ls + (one x.place + length l)
unfolding owed
owed_set [] ls w x l h k = absurd (omega arith)
owed_set (y ∷ ws) [] w x l h k = absurd (omega arith)
owed_set (y ∷ ws) (m ∷ ls) zero x l h k = omega arith
owed_set (y ∷ ws) (m ∷ ls) (suc w) x l h k = omega (arith, owed_set ws ls w x l (omega arith) (omega arith))

-- idle workers owe what they have left, and that is at most what the counts say
few_shared : (counts : List ℕ) (qs : List Request) (n : ℕ) → owed (replicate n idle) (shares counts qs) ≤ sum counts
unfolding owed shares sum
few_shared [] qs n = omega arith
few_shared (c ∷ counts) qs zero = omega (arith, length-take c qs, few_shared counts (drop c qs) zero)
few_shared (c ∷ counts) qs (suc n) = omega (arith, length-take c qs, few_shared counts (drop c qs) n)

pub few_owed : (counts : List ℕ) (qs : List Request) → owed (replicate 8 idle) (shares counts qs) ≤ sum counts
few_owed counts qs = few_shared counts qs 8
