-- What holds of every member of a list holds of what is read, stored or repeated there.
use Prim.Native.Nat.{ℕ, zero, suc}
use mathlib.Core.List.{List, [], ◌∷◌}
use lib.ListN.{get_or, set, replicate}
use Rattle.laws.proofs.Members.{All}

module _ {A : Type 0} (P : A → Type 0) where
  -- past the end, of what stands for an entry there
  pub all_read : (l : List A) (i : ℕ) (d : A) → All P l → P d → P (get_or l i d)
  all_read [] i d h p = p
  all_read (x ∷ l) zero d h p = h.0
  all_read (x ∷ l) (suc i) d h p = all_read l i d h.1 p

  pub all_set : (l : List A) (i : ℕ) (v : A) → All P l → P v → All P (set l i v)
  all_set [] i v h p = tt
  all_set (x ∷ l) zero v h p = (p, h.1)
  all_set (x ∷ l) (suc i) v h p = (h.0, all_set l i v h.1 p)

  pub all_replicate : (n : ℕ) (v : A) → P v → All P (replicate n v)
  all_replicate zero v p = tt
  all_replicate (suc n) v p = (p, all_replicate n v p)
