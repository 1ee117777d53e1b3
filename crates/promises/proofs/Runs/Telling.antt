-- The machine's requests, calls and graphs read as those of a run;
-- and what it is for both to report the same of one choice.
use Prim.Native.Nat.{ℕ}
use mathlib.Core.Option.{Option, none, some}
use mathlib.Core.Path.{◌≡◌}
use Rattle.row.specs.Rows.Row.{Call}
use Rattle.row.specs.Machine.Vertices.{addV, remV, conV}
use Rattle.row.specs.Machine.World.{World, vert, addE, remE, conE, graph, Untried}
use Rattle.row.specs.Machine.Moves.{move}
use Rattle.row.specs.Machine.Choices.{Conf, Choice, takes, steps, sweeps, opens, Began, close}
use Rattle.row.specs.Machine.World
use Rattle.row.proofs.Graphs.Good.{WGood}
use Rattle.promises.specs.Graphs.{Graph}
use Rattle.promises.specs.Alone.{Ask, AddV, RemV, ConV, AddE, RemE, ConE}
use Rattle.promises.specs.Histories.{Begun}

abbrev pub asked_of : World.Ask → Ask
asked_of (vert (addV k)) = AddV k
asked_of (vert (remV k)) = RemV k
asked_of (vert (conV k)) = ConV k
asked_of (addE k l) = AddE k l
asked_of (remE k l) = RemE k l
asked_of (conE k l) = ConE k l

abbrev pub taken_of : Option World.Ask → Option Ask
taken_of none = none
taken_of (some q) = some (asked_of q)

abbrev pub begun_of : Began → Begun
begun_of b = record { first = b.first; ask = asked_of b.request }

abbrev pub call_of : Call World.Ask ℕ → Call Ask ℕ
call_of c = record { first = c.first; request = asked_of c.request; reply = c.reply }

abbrev pub answered_of : Option (Call World.Ask ℕ) → Option (Call Ask ℕ)
answered_of none = none
answered_of (some c) = some (call_of c)

abbrev pub graph_of : World.Graph → Graph
graph_of g = record { series = g.v; derived = g.e }

-- the call that a choice of the machine answers, of those that its workers have begun
abbrev pub said_by : (ℕ → Began) → Conf → Choice → Option (Call World.Ask ℕ)
said_by b X (takes w q) = none
said_by b X (steps w) = close (b w) (move X.world (X.at w)).answer
said_by b X (sweeps W) = none

-- The machine's choice takes up for each worker what is taken up, and answers the call that is answered;
-- it is no sweep but an honest one.
pub record Same (X : Conf) (choice : Choice) (up : ℕ → Option Ask) (call : (ℕ → Begun) → Option (Call Ask ℕ)) : Type 0 where
  pub taken : (w : ℕ) → taken_of (opens X choice w) ≡ up w
  pub answered : (b : ℕ → Began) → answered_of (said_by b X choice) ≡ call (λ w. begun_of (b w))
  pub honest : (W : World) → choice ≡ sweeps W → WGood W × Untried W × (graph W ≡ graph X.world)
