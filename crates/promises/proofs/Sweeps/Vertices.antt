-- The vertex list of the world after a sweep is sorted: its numbers stand in a row,
-- and their keys rise because a swept catalogue is sound.
use Prim.Native.Nat.{ℕ, ◌+◌, ◌≤◌, ◌<◌}
use mathlib.Core.Bool.{true}
use mathlib.Core.Logic.{inl, inr}
use mathlib.Core.Path.{◌≡◌, refl, ap}
use native.Mathlib.Omega.{arith}
use lib.IntN.{ℤ}
use lib.Signed.{◌<ℤ◌}
use Rattle.catalogue.specs.Catalogue.{Catalogue, vertex_key, vertex_key_in, vertex_link, at_link}
use Rattle.catalogue.specs.Numbers.{least}
use Rattle.catalogue.specs.Live.{next_vertex, live_keys}
use Rattle.catalogue.specs.Soundness.{Asks, vertex_sound, sound}
use Rattle.catalogue.specs.Sweep.{swept, next_swept, swept_edges}
use Rattle.std.proofs.Common.{Option}
use Rattle.catalogue.specs.declared.links.Link.{Link}
use Rattle.laws.proofs.Members.{map_all}
use Rattle.resting.specs.Kept.{row}
use Rattle.resting.proofs.Sound.{link_rises, vertices_sound}
use Rattle.resting.proofs.Vertices.{live_over}
use Rattle.resting.proofs.SweptReads.{head_at, vertex_at, head_key}
use Rattle.resting.proofs.Shape.{vertices_row, live_row}
use Rattle.row.proofs.Base.{same?}
use Rattle.row.specs.Lists.Store.{view, Good}
use Rattle.promises.proofs.Sweeps.InRow.{all_in_row, first, final, inner, Row, row_sorted}
use Rattle.promises.proofs.Sweeps.World.{count, swept_world, fits}

module _ (asks : Asks) (C : Catalogue) (s : sound asks C ≡ true) (again : sound asks (swept C) ≡ true) where
  abbrev key : ℕ → ℤ
  key = vertex_key (swept C)

  abbrev next : ℕ → ℕ
  next = next_vertex (swept C)

  abbrev to : Option (Link ℕ) → ℕ
  to l = at_link l 1 (λ next tag. next)

  rises : (x : ℕ) → vertex_sound (swept C) x ≡ true → key x <ℤ key (next x)
  rises x e = link_rises (key x) key (vertex_link (swept C) x) e

  each_rises : (x : ℕ) → 2 ≤ x → x < 2 + count C → key x <ℤ key (next x)
  each_rises x a b =
      rises x (all_in_row (λ y. vertex_sound (swept C) y ≡ true) 2 (count C) (rw (vertices_row (live_keys C) (swept_edges C) (fits asks C s).few) at (vertices_sound asks (swept C) again).1) x a b)

  vertex_row : Row (view (swept_world C).v) 0 (λ i. i) 1 2 (2 + count C)
  unfolding next_swept
  vertex_row =
      record {
        ends = omega arith;
        starts = record {
          inside = omega arith;
          goes = ap to (head_at (live_keys C) (swept_edges C) (fits asks C s).few);
          apart = λ q. omega arith;
          rises = rises 0 (vertices_sound asks (swept C) again).0;
        };
        goes_on = λ i a b. record { inside = b; goes = ap to (vertex_at (live_keys C) (swept_edges C) (fits asks C s).few i a b); apart = λ q. omega arith; rises = each_rises i a b };
        covers = λ x m. elim (same? x 0) [ inl q ↦ first q | inr n ↦ elim (same? x 1) [ inl q ↦ final q | inr d ↦ inner x (omega arith) m refl ] ];
      }

  pub swept_good : Good (swept_world C).v
  unfolding vertex_key_in
  swept_good =
      record {
        sound = record {
          some = omega arith;
          sorted = row_sorted (view (swept_world C).v) 0 (λ i. i) 1 2 (2 + count C) vertex_row;
          head_plain = refl;
          tail_plain = refl;
        };
        key_head = head_key (live_keys C) (swept_edges C);
        key_tail = refl;
      }

  pub above_least : (x : ℕ) → 2 ≤ x → x < 2 + count C → least <ℤ key x
  above_least x a b =
      rw (← head_key (live_keys C) (swept_edges C))
      (all_in_row (λ y. key 0 <ℤ key y) 2 (count C)
      (map_all (λ k. key 0 <ℤ k) key (row 2 (count C)) (rw (live_row (live_keys C) (swept_edges C) (fits asks C s).few) at (live_over asks (swept C) again))) x a b)
