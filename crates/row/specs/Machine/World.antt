-- A world: the vertex list and the edge lists; what a worker may be asked and where it may stand;
-- the live graph, and what a call does to it alone. Nothing is proved here.
use Rattle.std.specs.Prelude.{ℕ, zero, suc, ◌≤◌, ◌<◌, Bool, true, false, cond, not, ◌&&◌, ◌||◌, ◌≡◌, List, [], ◌∷◌, ◌++◌, ℤ, eqb, leb}
use Rattle.std.proofs.Math.Option.{Option, none, some}
use Rattle.row.specs.Lists.Store.{Cat}
use Rattle.catalogue.specs.Tests.{eq_z, upd}
use Rattle.row.specs.Machine.Vertices.{Request, Place, live, sequential}
use Rattle.row.specs.Lists.Edges.{Tag, transit, marked, added, Prev, Edges}

pub record World : Type 0 where
  pub v : Cat
  pub e : Edges

pub data Ask : Type 0 where
  vert : Request → Ask
  addE remE conE : ℤ → ℤ → Ask

pub data Kind : Type 0 where
  adds rems cons : Kind

abbrev pub ask_of : Kind → ℤ → ℤ → Ask
ask_of adds k l = addE k l
ask_of rems k l = remE k l
ask_of cons k l = conE k l

-- a trial's search: the vertices met, those of its queue not yet taken, those taken,
-- and the open vertex with its current edge
pub data Opened : Type 0 where
  closed : Opened
  opened : ℕ → ℕ → Opened

pub record Hunt : Type 0 where
  pub met : ℕ → Bool
  pub todo : List ℕ
  pub taken : ℕ → Bool
  pub stand : Opened

abbrev pub hunt_from : ℕ → Hunt
hunt_from v = record { met = upd (λ x. false) v true; todo = v ∷ []; taken = λ x. false; stand = closed }

abbrev pub stands_at : Hunt → Opened → Hunt
stands_at h o = record { met = h.met; todo = h.todo; taken = h.taken; stand = o }

abbrev pub meets : Hunt → ℕ → Opened → Hunt
meets h y o = record { met = upd h.met y true; todo = h.todo ++ (y ∷ []); taken = h.taken; stand = o }

abbrev pub took : Hunt → ℕ → List ℕ → Opened → Hunt
took h x xs o = record { met = h.met; todo = xs; taken = upd h.taken x true; stand = o }

-- where a worker stands; LookE true is AddE's, LookE false RemE's
pub data Spot : Type 0 where
  Rest : Spot
  Vert : Place → Spot
  FindU : Kind → ℤ → ℤ → ℕ → Spot
  FindV : Kind → ℤ → ℤ → ℕ → ℕ → Spot
  LookE : Bool → ℤ → ℤ → ℕ → ℕ → Prev → ℕ → Spot
  ConE : ℤ → ℤ → ℕ → ℕ → ℕ → Spot
  Trial : ℤ → ℤ → ℕ → ℕ → ℕ → Hunt → Spot

pub record Next : Type 0 where
  pub world : World
  pub spot : Spot
  pub answer : Option ℕ

abbrev pub goes : World → Spot → Next
goes W p = record { world = W; spot = p; answer = none }

abbrev pub says : World → ℕ → Next
says W r = record { world = W; spot = Rest; answer = some r }

abbrev pub with_e : World → Edges → World
with_e W F = record { v = W.v; e = F }

abbrev pub is_added : Tag → Bool
is_added marked = false
is_added transit = false
is_added added = true

-- an edge on trial, and a world without one
pub record OnTrial (W : World) (e : ℕ) : Type 0 where
  pub low : 1 ≤ e
  pub high : e < W.e.used
  pub tried : W.e.tag e ≡ transit

abbrev pub Untried : World → Type 0
Untried W = (e : ℕ) → OnTrial W e → ⊥

-- ---- the live graph, and a call alone

pub record Graph : Type 0 where
  pub v : ℤ → Bool
  pub e : ℤ → ℤ → Bool

abbrev pub is_edge : (ℕ → Bool) → (ℕ → ℤ) → (ℕ → Tag) → (ℕ → ℕ) → (ℕ → ℕ) → (ℕ → ℤ) → ℤ → ℤ → ℕ → Bool
is_edge vm vk tag owner target ek k l x =
    leb 1 x && (is_added (tag x) && (not (vm (owner x)) && (not (vm (target x)) && (eq_z (vk (owner x)) k && eq_z (ek x) l))))

unfoldable pub has_edge : (ℕ → Bool) → (ℕ → ℤ) → (ℕ → Tag) → (ℕ → ℕ) → (ℕ → ℕ) → (ℕ → ℤ) → ℤ → ℤ → ℕ → Bool
has_edge vm vk tag owner target ek k l zero = false
has_edge vm vk tag owner target ek k l (suc x) = cond (is_edge vm vk tag owner target ek k l x) true (has_edge vm vk tag owner target ek k l x)

abbrev pub edges : World → ℤ → ℤ → Bool
edges W k l = has_edge W.v.marked W.v.key W.e.tag W.e.owner W.e.target W.e.key k l W.e.used

abbrev pub graph : World → Graph
graph W = record { v = live W.v; e = edges W }

abbrev pub put_edge : (ℤ → ℤ → Bool) → ℤ → ℤ → Bool → ℤ → ℤ → Bool
put_edge g k l b x y = cond (eq_z x k && eq_z y l) b (g x y)

-- the edges with both ends still there
abbrev pub between : (ℤ → Bool) → (ℤ → ℤ → Bool) → ℤ → ℤ → Bool
between gv ge x y = ge x y && (gv x && gv y)

abbrev pub alone : Graph → Ask → ℕ × Graph
alone g (vert q) = let o = sequential g.v q in (o.0, record { v = o.1; e = between o.1 g.e })
alone g (addE k l) = cond (g.v k && g.v l) (cond (g.e k l) (4, g) (1, record { v = g.v; e = put_edge g.e k l true })) (3, g)
alone g (remE k l) = cond (g.v k && g.v l) (cond (g.e k l) (1, record { v = g.v; e = put_edge g.e k l false }) (5, g)) (3, g)
alone g (conE k l) = (cond (g.e k l) 1 8, g)

-- all replies belong in the row but 6, 7 and 9
abbrev pub in_row : ℕ → Bool
in_row r = not (eqb r 6 || (eqb r 7 || eqb r 9))
