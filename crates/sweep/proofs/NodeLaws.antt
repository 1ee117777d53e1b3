-- A new node, by the write that makes it: the first edge of its source, or the next.
use Prim.Native.Nat.{ℕ, ◌+◌, ◌<◌}
use mathlib.Core.List.{List}
use mathlib.Core.Path.{◌≡◌, sym, ap, subst}
use native.Mathlib.Omega.{arith}
use mir.Facts.{to_z-of_z}
use borrow.Author.Tests.{eq-eqb, ne_eqb}
use lib.IntN.{ℤ}
use lib.Dec.{eqb}
use Rattle.catalogue.specs.Catalogue.{Catalogue}
use Rattle.catalogue.specs.Lent.{lay, memory_of}
use Rattle.catalogue.specs.declared.writes.Write.{Write}
use Rattle.catalogue.specs.declared.writes.Write.TheVariants.{NewFirst, NewEdge}
use Rattle.laws.proofs.Picks.{pick_both}
use Rattle.memory.specs.Memories.{Hold, Writable}
use Rattle.sweep.specs.Built.{edge_write}

-- two slices that hold a catalogue, as one memory
pub laid : (keys : List ℤ) (words : List ℕ) (C : Catalogue) → Hold keys words C → memory_of keys words ≡ lay C
laid keys words C h = λ i. record { keys = h.0 i; words = h.1 i }

-- A key comes to a callee through its bits, so there it is another number, equal to it.
module _ (key key' : ℤ) (same : key' ≡ key) (n : ℕ) where
  module _ (target source p : ℕ) where
    pub first_written : p ≡ 0 → NewFirst (1 + n) key' target 0 source ≡ edge_write n key target source p
    unfolding edge_write
    first_written e = rw (eq-eqb p 0 e) (ap (λ k. NewFirst (1 + n) k target 0 source) same)

    pub next_written : (p ≡ 0 → ⊥) → NewEdge (1 + n) key' target 0 p 3 ≡ edge_write n key target source p
    unfolding edge_write
    next_written e = rw (ne_eqb p 0 e) (ap (λ k. NewEdge (1 + n) k target 0 p 3) same)

pub edge_writable : (n : ℕ) (key : ℤ) (target source p : ℕ) (w : Write) → w ≡ edge_write n key target source p → n < 2047 → p < 2048 → Writable w
unfolding edge_write
edge_writable n key target source p w e low before =
    subst Writable (sym e) (pick_both Writable (eqb p 0) _ _ (λ q. omega arith) (λ q. (omega arith, before)))

pub ruleset edge_written = (first_written, next_written, to_z-of_z)
