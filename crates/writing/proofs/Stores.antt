-- Stores in memory that holds a catalogue. After the store of a link, it holds the catalogue with that link.
-- After the stores of a new node, it holds the catalogue with the node.
use Prim.Native.Nat.{ℕ, ◌+◌, ◌-◌, ◌<◌}
use mathlib.Core.List.{List}
use mathlib.Core.Path.{◌≡◌}
use lib.IntN.{ℤ}
use lib.ListN.{set}
use Rattle.catalogue.specs.Numbers.{link, plain, transit, edge_tail}
use Rattle.catalogue.specs.Catalogue.{Catalogue}
use Rattle.catalogue.specs.Writes.{with_vertex_link, with_first, with_edge_link, with_vertex, with_edge}
use Rattle.catalogue.specs.Lent.{lay}
use Rattle.memory.specs.Memories.{Hold}
use Rattle.memory.proofs.Tables.{set_table, set_front, set_behind}
use Rattle.memory.proofs.Laid.{vlink_place, first_place, target_place, elink_place}

module _ (C : Catalogue) (keys : List ℤ) (words words' : List ℕ) (held : Hold keys words C) (n word : ℕ) where
  pub vertex_linked : n < 256 → words' ≡ set words (2 + n) word → Hold keys words' (with_vertex_link C n word)
  unfolding lay
  vertex_linked h e = (held.0, rw (e, held.1) (simp (vlink_place, set_front)))

  pub first_linked : n < 256 → words' ≡ set words (258 + n) word → Hold keys words' (with_first C n word)
  unfolding lay
  first_linked h e = (held.0, rw (e, held.1) (simp (first_place, set_behind, set_front)))

  pub edge_linked : n < 2048 → words' ≡ set words (2562 + n) word → Hold keys words' (with_edge_link C n word)
  unfolding lay
  edge_linked h e = (held.0, rw (e, held.1) (simp (elink_place, set_behind, set_table)))

module _ (C : Catalogue) (keys keys' : List ℤ) (words w₁ w₂ w₃ : List ℕ) (held : Hold keys words C) (n : ℕ) (key : ℤ) where
  pub vertex_filled : (next : ℕ) → n < 256 → keys' ≡ set keys n key
      → w₁ ≡ set words (2 + n) (link next plain) → w₂ ≡ set w₁ (258 + n) (link edge_tail plain) → w₃ ≡ set w₂ 0 (n - 1)
      → Hold keys' w₃ (with_vertex C n key next)
  unfolding lay
  vertex_filled next h k e₁ e₂ e₃ =
      (rw (k, held.0) (simp set_front), rw (e₃, e₂, e₁, held.1) (simp (vlink_place, first_place, set_behind, set_front)))

  pub edge_filled : (target next : ℕ) → n < 2048 → keys' ≡ set keys (256 + n) key
      → w₁ ≡ set words (514 + n) target → w₂ ≡ set w₁ (2562 + n) (link next transit) → w₃ ≡ set w₂ 1 n
      → Hold keys' w₃ (with_edge C n key target next)
  unfolding lay
  edge_filled target next h k e₁ e₂ e₃ =
      (rw (k, held.0) (simp (set_behind, set_table)), rw (e₃, e₂, e₁, held.1) (simp (target_place, elink_place, set_behind, set_front, set_table)))
