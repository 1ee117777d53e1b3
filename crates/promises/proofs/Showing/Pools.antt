-- What the pools have handed out, and which node is the next.
use Prim.Native.Nat.{ℕ, ◌+◌, ◌≤◌, ◌<◌}
use mathlib.Core.Path.{◌≡◌}
use native.Mathlib.Omega.{arith}
use borrow.Author.Tests.{eqb-true, eq-eqb, lt-ltb, le-ltb}
use lib.Dec.{eqb, ltb}
use lib.IntN.{ℤ}
use Rattle.catalogue.specs.Numbers.{room}
use Rattle.catalogue.specs.Catalogue.{Catalogue}
use Rattle.catalogue.specs.declared.links.Room.{Room}
use Rattle.catalogue.specs.declared.links.Room.TheVariants as room
use Rattle.laws.proofs.Picks.{pick_both}
use Rattle.row.proofs.Graphs.Good.{WGood}
use Rattle.row.proofs.Graphs.Graph.{IsV}
use Rattle.row.specs.Lists.Store.{Cat}
use Rattle.row.specs.Machine.World.{World}
use Rattle.promises.proofs.Showing.Shows.{Shows, Series}

module _ (limit lowest count : ℕ) where
  pub room_left : count < limit → room limit lowest count ≡ room.Next (lowest + count)
  unfolding room
  room_left h = rw (lt-ltb count limit h)

  pub room_full : count ≤ limit → limit ≤ count → room limit lowest count ≡ room.Full
  unfolding room
  room_full l h = rw (le-ltb count limit h, eq-eqb count limit (omega arith))

-- the next node of a pool, or none
pub room_both : (P : Room → Type 0) (limit lowest count : ℕ) → ((n : ℕ) → P (room.Next n)) → (count ≡ limit → P room.Full) → P room.Torn → P (room limit lowest count)
unfolding room
room_both P limit lowest count f g t =
    pick_both P (ltb count limit) _ _ (λ e. f (lowest + count)) (λ e. pick_both P (eqb count limit) _ _ (λ e. g (eqb-true count limit e)) (λ e. t))

module _ (C : Catalogue) (W : World) (s : Shows C W) where
  pub vertices_in_pool : W.v.used ≤ 256
  vertices_in_pool = omega (arith, s.vertices, s.vertices_fit)

  pub edges_in_pool : W.e.used ≤ 2048
  edges_in_pool = omega (arith, s.edges, s.edges_fit)

-- a vertex that was found by its key is handed out, and so is where an edge leads
pub series_of : {D : Cat} {k : ℤ} {u : ℕ} → IsV D k u → Series D.used u
series_of i = record { low = i.low; high = i.high }

pub target_series : (W : World) → WGood W → (e : ℕ) → 1 ≤ e → e < W.e.used → Series W.v.used (W.e.target e)
target_series W g e low high = let t = g.ends e low high in record { low = t.target_low; high = t.target_high }
