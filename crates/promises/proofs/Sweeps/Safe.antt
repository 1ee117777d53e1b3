-- No walk over the edges of a swept catalogue comes back to where it began:
-- it would be a walk in the live graph of before.
use Prim.Native.Nat.{ℕ, ◌+◌, ◌≤◌, ◌<◌}
use mathlib.Core.Bool.{true}
use mathlib.Core.Path.{◌≡◌}
use native.Mathlib.Omega.{arith}
use lib.IntN.{ℤ}
use Rattle.catalogue.specs.Tests.{member}
use Rattle.catalogue.specs.Catalogue.{Catalogue, edge_key}
use Rattle.catalogue.specs.Live.{live_vertices, live_edges_of, live_keys, live_pairs}
use Rattle.catalogue.specs.Soundness.{Asks, sound}
use Rattle.catalogue.specs.Sweep.{swept, swept_edges}
use Rattle.resting.proofs.Rows.{member_row}
use Rattle.resting.proofs.Shape.{live_row}
use Rattle.resting.specs.Kept.{start, size, share}
use Rattle.resting.proofs.Keeping.{kept}
use Rattle.resting.proofs.Targets.{live_edges_row}
use Rattle.resting.proofs.Standing.{source_row}
use Rattle.row.proofs.Graphs.Older.{Trail, end, via, LiveE, Safe}
use Rattle.promises.specs.Graphs.{live, Walk, here, over, among, same_pair}
use Rattle.promises.proofs.Sweeps.World.{count, edge_count, swept_world, fits}
use Rattle.promises.proofs.Sweeps.Lists.{edge_ends}
use Rattle.promises.proofs.Lists.Live.{edge_derived}

module _ (asks : Asks) (C : Catalogue) (s : sound asks C ≡ true) (again : sound asks (swept C) ≡ true) where
  abbrev key : ℕ → ℤ
  key = (swept_world C).v.key

  -- an edge of the world was in the live graph of before
  edge_before : (e : ℕ) → 1 ≤ e → e < 1 + edge_count C → (live C).derived (key ((swept_world C).e.owner e)) (key ((swept_world C).e.target e)) ≡ true
  edge_before e a b =
      let w = edge_ends asks C s again e a b in
      let u : ℕ = (swept_world C).e.owner e in
      let r = source_row (fits asks C s) e a (omega arith) in
      let v : member u (live_vertices (swept C)) ≡ true =
      rw (live_row (live_keys C) (swept_edges C) (fits asks C s).few) (member_row u 2 (count C) w.source_low w.source_high) in
      let l : member e (live_edges_of (swept C) u) ≡ true =
      rw (live_edges_row (fits asks C s) u (w.source_low, w.source_high)) (member_row e (start (share C) u) (size (share C) u) r.0 r.1) in
      let was : among same_pair (key u, edge_key (swept C) e) (live_pairs C) ≡ true = rw (kept asks C s).same_pairs at (edge_derived (swept C) u e v l) in
      rw w.same_key was

  -- a trail of the world is a walk
  follow : {P : ℕ → Type 0} {y x : ℕ} → ((e : ℕ) → P e → LiveE (swept_world C) e)
      → Trail P (swept_world C).e.owner (swept_world C).e.target y x → Walk (live C) (key y) (key x)
  follow f (end q) = rw q here
  follow f (via e p q r) = let l = f e p in rw (← q) (over (key ((swept_world C).e.target e)) (edge_before e l.low l.high) (follow f r))

  pub swept_safe : ((k l : ℤ) → (live C).derived k l ≡ true → Walk (live C) k l → ⊥) → Safe (swept_world C)
  swept_safe none e a t = none (key ((swept_world C).e.owner e)) (key ((swept_world C).e.target e)) (edge_before e a.low a.high) (follow (λ f p. p.0) t)
