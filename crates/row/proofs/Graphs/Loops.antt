-- The live graph of a good world has no loop: a walk over keys is a walk over nodes, and `Safe` allows no closed one.
use Prim.Native.Nat.{ℕ, ◌<◌}
use mathlib.Core.Bool.{Bool, true, false}
use mathlib.Core.Path.{◌≡◌, sym, ◌∙◌}
use lib.IntN.{ℤ}
use Rattle.row.specs.Machine.World.{World, Graph, edges, graph}
use Rattle.row.proofs.Graphs.Older.{Trail, AddedE, acyclic}
use Rattle.row.proofs.Graphs.Older
use Rattle.row.proofs.Graphs.Good.{WGood}
use Rattle.row.proofs.Graphs.Graph.{PresentE, yes_edge, vunique}

-- from x to y over edges of g
pub data Walk (g : ℤ → ℤ → Bool) (y : ℤ) : ℤ → Type 0 where
  end : {x : ℤ} → x ≡ y → Walk g y x
  via : {x : ℤ} (z : ℤ) → g x z ≡ true → Walk g y z → Walk g y x

abbrev pub Loopless : Graph → Type 0
Loopless g = (x y : ℤ) → g.e x y ≡ true → Walk g.e x y → ⊥

-- an unmarked vertex of key k
record Plain (W : World) (k : ℤ) (a : ℕ) : Type 0 where
  high : a < W.v.used
  plain : W.v.marked a ≡ false
  holds : W.v.key a ≡ k

module _ (W : World) (g : WGood W) where
  abbrev Over : ℕ → ℕ → Type 0
  Over x y = Trail (AddedE W) W.e.owner W.e.target y x

  one_v : (k : ℤ) (a b : ℕ) → Plain W k a → Plain W k b → a ≡ b
  one_v k a b p q = vunique W g k a b p.high q.high p.plain q.plain (p.holds ∙ sym q.holds)

  leaving : {k l : ℤ} (p : PresentE W k l) → Plain W k (W.e.owner p.node)
  leaving p = record { high = (g.ends p.node p.low p.high).source_high; plain = p.source; holds = p.leaves }

  coming : {k l : ℤ} (p : PresentE W k l) → Plain W l (W.e.target p.node)
  coming p = let w = g.ends p.node p.low p.high in record { high = w.target_high; plain = p.goal; holds = w.same_key ∙ p.comes }

  edge_of : {k l : ℤ} (p : PresentE W k l) → AddedE W p.node
  edge_of p = record { low = p.low; high = p.high; is_added = p.is; source = p.source; target = p.goal }

  -- a walk over keys is a walk over nodes
  walk_over : {y x : ℤ} → Walk (edges W) y x → (a : ℕ) → Plain W x a → (b : ℕ) → Plain W y b → Over a b
  walk_over {y = y} (end e) a p b q = Older.end (one_v y a b (rw e at p) q)
  walk_over (via {x = x} z e w) a p b q =
      let r = yes_edge W x z e in
      Older.via r.node (edge_of r) (one_v x (W.e.owner r.node) a (leaving r) p) (walk_over w (W.e.target r.node) (coming r) b q)

  pub loopless : Loopless (graph W)
  loopless x y e w =
      let r = yes_edge W x y e in
      acyclic W g.safe r.node (edge_of r) (walk_over w (W.e.target r.node) (coming r) (W.e.owner r.node) (leaving r))
