-- What is read where a link, a key or a target was written, and elsewhere.
use Prim.Native.Nat.{ℕ, ◌≤◌, ◌<◌}
use mathlib.Core.Bool.{Bool, true, false}
use mathlib.Core.Path.{◌≡◌, refl}
use native.Mathlib.Omega.{arith}
use borrow.Author.Tests.{ne_eqb, lt-ltb}
use lib.IntN.{ℤ}
use Rattle.catalogue.specs.Tests.{upd}
use Rattle.catalogue.specs.Numbers.{link, plain, vertex_tag, first_tag, edge_tag, some_link}
use Rattle.catalogue.specs.Catalogue.{vertex_key_in, vertex_link_in, first_link_in, edge_key_in, edge_link_in, edge_target_in}
use Rattle.std.proofs.Common.{Some}
use Rattle.resting.proofs.Links.{link_apart}
use Rattle.row.proofs.Base.{upd_same, upd_other}
use Rattle.row.specs.Lists.Edges.{Tag, marked, transit, added}
use Rattle.promises.proofs.Showing.Shows.{vertex_tag_of, edge_tag_of}

-- ---- vertices

pub vertex_there : (words : ℕ → ℕ) (x n : ℕ) (b : Bool) → (x ≡ 1 → ⊥) → n < 256
    → vertex_link_in (upd words x (link n (vertex_tag_of b))) x ≡ some_link n (vertex_tag_of b)
unfolding vertex_link_in
vertex_there words x n true d h = rw (ne_eqb x 1 d, upd_same words x (link n 1)) (link_apart 256 vertex_tag n 1 h (omega arith) refl)
vertex_there words x n false d h = rw (ne_eqb x 1 d, upd_same words x (link n 0)) (link_apart 256 vertex_tag n 0 h (omega arith) refl)

pub vertex_else : (words : ℕ → ℕ) (x word y : ℕ) → (y ≡ x → ⊥) → vertex_link_in (upd words x word) y ≡ vertex_link_in words y
unfolding vertex_link_in
vertex_else words x word y d = rw (upd_other words x word y d)

pub first_there : (words : ℕ → ℕ) (x n : ℕ) → n < 2048 → first_link_in (upd words x (link n plain)) x ≡ some_link n plain
unfolding first_link_in
first_there words x n h = rw (upd_same words x (link n plain)) (link_apart 2048 first_tag n 0 h (omega arith) refl)

pub first_else : (words : ℕ → ℕ) (x word y : ℕ) → (y ≡ x → ⊥) → first_link_in (upd words x word) y ≡ first_link_in words y
unfolding first_link_in
first_else words x word y d = rw (upd_other words x word y d)

pub vkey_there : (keys : ℕ → ℤ) (x : ℕ) (k : ℤ) → (x ≡ 1 → ⊥) → vertex_key_in (upd keys x k) x ≡ k
unfolding vertex_key_in
vkey_there keys x k d = rw (ne_eqb x 1 d, upd_same keys x k)

pub vkey_else : (keys : ℕ → ℤ) (x : ℕ) (k : ℤ) (y : ℕ) → (y ≡ x → ⊥) → vertex_key_in (upd keys x k) y ≡ vertex_key_in keys y
unfolding vertex_key_in
vkey_else keys x k y d = rw (upd_other keys x k y d)

-- ---- edges

pub edge_there : (words : ℕ → ℕ) (e n : ℕ) (t : Tag) → 1 ≤ e → e < 2048 → n < 2048
    → edge_link_in (upd words e (link n (edge_tag_of t))) e ≡ some_link n (edge_tag_of t)
unfolding edge_link_in
edge_there words e n t low high h =
    rw (ne_eqb e 0 (λ z. omega arith), lt-ltb e 2048 high, upd_same words e (link n (edge_tag_of t)))
    (link_apart 2048 edge_tag n (edge_tag_of t) h (small t) (allowed t))
  where
    allowed : (t : Tag) → edge_tag (edge_tag_of t) ≡ true
    allowed marked = refl
    allowed transit = refl
    allowed added = refl

    small : (t : Tag) → edge_tag_of t < 4
    small marked = omega arith
    small transit = omega arith
    small added = omega arith

pub edge_else : (words : ℕ → ℕ) (e word y : ℕ) → (y ≡ e → ⊥) → edge_link_in (upd words e word) y ≡ edge_link_in words y
unfolding edge_link_in
edge_else words e word y d = rw (upd_other words e word y d)

pub ekey_there : (keys : ℕ → ℤ) (e : ℕ) (k : ℤ) → 1 ≤ e → edge_key_in (upd keys e k) e ≡ k
unfolding edge_key_in
ekey_there keys e k low = rw (ne_eqb e 0 (λ z. omega arith), upd_same keys e k)

pub ekey_else : (keys : ℕ → ℤ) (e : ℕ) (k : ℤ) (y : ℕ) → (y ≡ e → ⊥) → edge_key_in (upd keys e k) y ≡ edge_key_in keys y
unfolding edge_key_in
ekey_else keys e k y d = rw (upd_other keys e k y d)

pub target_there : (words : ℕ → ℕ) (e y : ℕ) → y < 256 → edge_target_in (upd words e y) e ≡ Some y
unfolding edge_target_in
target_there words e y h = rw (upd_same words e y, lt-ltb y 256 h)

pub target_else : (words : ℕ → ℕ) (e word y : ℕ) → (y ≡ e → ⊥) → edge_target_in (upd words e word) y ≡ edge_target_in words y
unfolding edge_target_in
target_else words e word y d = rw (upd_other words e word y d)
