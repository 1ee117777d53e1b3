-- A link made and read again.
use Prim.Native.Nat.{ℕ, ◌/◌, ◌%◌, ◌<◌}
use mathlib.Core.Bool.{Bool, true}
use mathlib.Core.Path.{◌≡◌, refl}
use native.Mathlib.Omega.{arith}
use borrow.Author.Tests.{lt-ltb}
use Rattle.catalogue.specs.Numbers.{link, some_link, apart}

link_node : (n t : ℕ) → t < 4 → link n t / 4 ≡ n
link_node n t h = omega arith

link_tag : (n t : ℕ) → t < 4 → link n t % 4 ≡ t
link_tag n t h = omega arith

pub link_apart : (pool : ℕ) (allowed : ℕ → Bool) (n t : ℕ) → n < pool → t < 4 → allowed t ≡ true → apart pool allowed (link n t) ≡ some_link n t
link_apart pool allowed n t b h e = rw (link_node n t h, link_tag n t h, lt-ltb n pool b, e) refl
