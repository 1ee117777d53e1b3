-- What is known of a worker by where it stands.
use Prim.Native.Nat.{ℕ, ◌≤◌, ◌<◌}
use mathlib.Core.Bool.{Bool, true, false}
use mathlib.Core.Path.{◌≡◌}
use mathlib.Core.Logic.{◌⊎◌}
use mathlib.Core.List.{List, [], ◌∷◌}
use lib.IntN.{ℤ}
use lib.Signed.{◌<ℤ◌}
use Rattle.row.specs.Lists.Links.{Run}
use Rattle.row.specs.Machine.Vertices.{Request}
use Rattle.row.proofs.Steps.VertexDeeds.{Legal, VOk, VServes}
use Rattle.row.specs.Lists.Edges.{transit, Prev, at, Edges, link, key_at, Mine}
use Rattle.row.specs.Machine.World.{World, Ask, vert, addE, remE, conE, ask_of, Opened, closed, opened, Hunt, Spot, Rest, Vert, FindU, FindV, LookE, ConE, Trial}
use Rattle.row.proofs.Graphs.Older.{LiveE}
use Rattle.row.proofs.Graphs.Graph.{IsV}

pub record EAims (E : Edges) (u : ℕ) (l : ℤ) (p : Prev) : Type 0 where
  pub inside : Mine E u p
  pub inner : p ≡ at 0 → ⊥
  pub below : key_at E.key p <ℤ l

pub record Pair (W : World) (k l : ℤ) (u v : ℕ) : Type 0 where
  pub legal : Legal l
  pub source : IsV W.v k u
  pub goal : IsV W.v l v

pub record Own (E : Edges) (l : ℤ) (u v e : ℕ) : Type 0 where
  pub low : 1 ≤ e
  pub high : e < E.used
  pub tried : E.tag e ≡ transit
  pub from_u : E.owner e ≡ u
  pub to_v : E.target e ≡ v
  pub key_l : E.key e ≡ l

abbrev pub Mem : ℕ → List ℕ → Type 0
Mem y [] = ⊥
Mem y (x ∷ xs) = (y ≡ x) ⊎ Mem y xs

-- the edge f is still ahead of the open vertex's current edge
abbrev pub Ahead : World → Opened → ℕ → Type 0
Ahead W closed f = ⊥
Ahead W (opened x c) f = (x ≡ W.e.owner f) × Run (λ y. at (link W.e x y)) (at 0) (at f) (at c)

abbrev pub StandOk : World → Opened → Type 0
StandOk W closed = Unit {0}
StandOk W (opened x c) = Mine W.e x (at c)

-- A search that tries the edge e from u to v: a vertex met is taken, or waits in the queue; v is met, u not taken;
-- and a live edge older than e from a vertex taken leads to a vertex met, or is still ahead.
pub record HuntOk (W : World) (u v e : ℕ) (h : Hunt) : Type 0 where
  pub kept : (y : ℕ) → h.met y ≡ true → (h.taken y ≡ true) ⊎ Mem y h.todo
  pub target_met : h.met v ≡ true
  pub not_u : h.taken u ≡ false
  pub covered : (f : ℕ) → LiveE W f → f < e → h.taken (W.e.owner f) ≡ true → (h.met (W.e.target f) ≡ true) ⊎ Ahead W h.stand f
  pub place : StandOk W h.stand

abbrev pub Ok : World → Spot → Type 0
Ok W Rest = Unit {0}
Ok W (Vert pl) = VOk W.v pl
Ok W (FindU q k l c) = Legal k × Legal l × (c < W.v.used)
Ok W (FindV q k l u c) = Legal l × IsV W.v k u × (c < W.v.used)
Ok W (LookE b k l u v p c) = Pair W k l u v × EAims W.e u l p
Ok W (ConE k l u v c) = Pair W k l u v × Mine W.e u (at c)
Ok W (Trial k l u v e h) = Pair W k l u v × Own W.e l u v e × HuntOk W u v e h

abbrev pub edit : Bool → ℤ → ℤ → Ask
edit true k l = addE k l
edit false k l = remE k l

abbrev pub Serves : Ask → Spot → Type 0
Serves q Rest = Unit {0}
Serves q (Vert pl) = (r : Request) × (q ≡ vert r) × VServes r pl
Serves q (FindU d k l c) = q ≡ ask_of d k l
Serves q (FindV d k l u c) = q ≡ ask_of d k l
Serves q (LookE b k l u v p c) = q ≡ edit b k l
Serves q (ConE k l u v c) = q ≡ conE k l
Serves q (Trial k l u v e h) = q ≡ addE k l

abbrev pub own : Spot → ℕ
own Rest = 0
own (Vert pl) = 0
own (FindU q k l c) = 0
own (FindV q k l u c) = 0
own (LookE b k l u v p c) = 0
own (ConE k l u v c) = 0
own (Trial k l u v e h) = e
