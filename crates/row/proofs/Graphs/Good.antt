-- A good world: both kinds of lists are sound, each edge joins two vertices, and `Safe` holds.
use Prim.Native.Nat.{ℕ, ◌≤◌, ◌<◌}
use mathlib.Core.Path.{◌≡◌}
use Rattle.row.specs.Lists.Store.{Good}
use Rattle.catalogue.specs.Numbers.{greatest}
use Rattle.row.specs.Lists.Edges.{transit, ESound}
use Rattle.row.proofs.Graphs.Older.{Safe}
use Rattle.row.specs.Machine.World.{World}

pub record Ends (W : World) (e : ℕ) : Type 0 where
  pub source_low : 2 ≤ W.e.owner e
  pub source_high : W.e.owner e < W.v.used
  pub target_low : 2 ≤ W.e.target e
  pub target_high : W.e.target e < W.v.used
  pub same_key : W.v.key (W.e.target e) ≡ W.e.key e

pub record WGood (W : World) : Type 0 where
  pub good : Good W.v
  pub esound : ESound W.e
  pub tail_key : W.e.key 0 ≡ greatest
  pub tail_tag : W.e.tag 0 ≡ transit
  pub ends : (e : ℕ) → 1 ≤ e → e < W.e.used → Ends W e
  pub safe : Safe W
