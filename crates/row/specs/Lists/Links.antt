-- One linked list, seen from outside: runs, rising keys, what is live. It serves the vertex list and each edge list.
use Rattle.std.specs.Prelude.{Bool, false, ◌≡◌, ℤ, ◌<ℤ◌}

-- from `a`, following `nx` zero or more times and never from the tail, one comes to `b`
pub data Run {N : Type 0} (nx : N → N) (tl b : N) : N → Type 0 where
  stop : {a : N} → a ≡ b → Run nx tl b a
  go : {a : N} → (a ≡ tl → ⊥) → Run nx tl b (nx a) → Run nx tl b a

-- a list at one moment; `mine`: the nodes that belong to it, head and tail among them
pub record View (N : Type 0) : Type 1 where
  pub next : N → N
  pub marked : N → Bool
  pub key : N → ℤ
  pub mine : N → Type 0

abbrev pub Reached : {N : Type 0} → N → N → View N → N → Type 0
Reached hd tl C x = Run C.next tl x hd

pub record Follows {N : Type 0} (C : View N) (x y : N) : Type 0 where
  pub inside : C.mine y
  pub above : C.key x <ℤ C.key y

pub record Sorted {N : Type 0} (hd tl : N) (C : View N) : Type 0 where
  pub head_in : C.mine hd
  pub follows : (x : N) → C.mine x → (x ≡ tl → ⊥) → Follows C x (C.next x)
  pub linked : (x : N) → C.mine x → C.marked x ≡ false → Reached hd tl C x

-- key k is live: an unmarked node has it
pub record Live {N : Type 0} (C : View N) (k : ℤ) : Type 0 where
  pub node : N
  pub inside : C.mine node
  pub plain : C.marked node ≡ false
  pub has : C.key node ≡ k
