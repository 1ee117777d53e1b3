-- Choices, the runs that they make, and a run's history. A sweep's result is the chooser's:
-- `Honest` asks that it be good, have the same live graph and no edge on trial. Nothing is proved here.
use Rattle.std.specs.Prelude.{ℕ, zero, suc, Bool, true, false, cond, ◌&&◌, ◌≡◌, pos, eqb, ltb}
use Rattle.std.proofs.Math.Option.{Option, none, some}
use Rattle.row.specs.Rows.Row.{Call, History}
use Rattle.catalogue.specs.Tests.{upd}
use Rattle.catalogue.specs.Numbers.{greatest}
use Rattle.row.specs.Machine.Vertices.{conV, begin, fits_key, legal}
use Rattle.row.specs.Machine.Vertices
use Rattle.row.specs.Lists.Edges.{transit}
use Rattle.row.specs.Machine.World.{World, Ask, vert, addE, remE, conE, rems, adds, cons, Spot, Rest, Vert, FindU, FindV, LookE, ConE, Trial, Untried, Graph, graph, in_row}
use Rattle.row.specs.Machine.Moves.{move}

abbrev pub starts : World → Ask → Spot
starts W (vert q) = Vert (begin W.v q)
starts W (addE k l) = FindU adds k l (W.v.next 0)
starts W (remE k l) = FindU rems k l (W.v.next 0)
starts W (conE k l) = FindU cons k l (W.v.next 0)

abbrev pub resting : Spot → Bool
resting Rest = true
resting (Vert pl) = false
resting (FindU q k l c) = false
resting (FindV q k l u c) = false
resting (LookE b k l u v p c) = false
resting (ConE k l u v c) = false
resting (Trial k l u v e h) = false

abbrev pub allowed : Ask → Bool
allowed (vert q) = legal q
allowed (addE k l) = fits_key k && fits_key l
allowed (remE k l) = fits_key k && fits_key l
allowed (conE k l) = fits_key k && fits_key l

-- what is done next
pub data Choice : Type 0 where
  takes : ℕ → Ask → Choice
  steps : ℕ → Choice
  sweeps : World → Choice

pub record Conf : Type 0 where
  pub world : World
  pub at : ℕ → Spot

abbrev pub takable : (ℕ → Spot) → ℕ → Ask → Bool
takable f w q = ltb w 8 && (resting (f w) && allowed q)

-- the workers below n are at rest
unfoldable pub all_rest : ℕ → (ℕ → Spot) → Bool
all_rest zero f = true
all_rest (suc n) f = resting (f n) && all_rest n f

-- a refused choice changes nothing, so every sequence of choices is a run
abbrev pub act : Conf → Choice → Conf
act X (takes w q) = cond (takable X.at w q) (record { world = X.world; at = upd X.at w (starts X.world q) }) X
act X (steps w) = let o = move X.world (X.at w) in record { world = o.world; at = upd X.at w o.spot }
act X (sweeps W) = cond (all_rest 8 X.at) (record { world = W; at = X.at }) X

abbrev pub fresh : Conf
fresh = record {
  world = record {
    v = Vertices.fresh;
    e = record { first = λ u. 0; next = λ x. 0; tag = λ x. transit; key = λ x. greatest; target = λ x. 0; owner = λ x. 0; used = 1 };
  };
  at = λ w. Rest;
}

-- after the first n choices
unfoldable pub conf : (ℕ → Choice) → ℕ → Conf
conf s zero = fresh
conf s (suc n) = act (conf s n) (s n)

-- the request that a choice takes up for worker w
abbrev pub opens : Conf → Choice → ℕ → Option Ask
opens X (takes v q) w = cond (eqb v w && takable X.at v q) (some q) none
opens X (steps v) w = none
opens X (sweeps W) w = none

pub record Began : Type 0 where
  pub first : ℕ
  pub request : Ask

abbrev pub since : Option Ask → ℕ → Began → Began
since none b old = old
since (some q) b old = record { first = b; request = q }

-- the last call that worker w took up within the first n events: its event and its request
unfoldable pub began : (ℕ → Choice) → ℕ → ℕ → Began
began s w zero = record { first = 0; request = vert (conV (pos 0)) }
began s w (suc n) = since (opens (conf s n) (s n) w) (suc n) (began s w n)

abbrev pub close : Began → Option ℕ → Option (Call Ask ℕ)
close b none = none
close b (some r) = some (record { first = b.first; request = b.request; reply = r })

abbrev pub said : (ℕ → Choice) → ℕ → Choice → Option (Call Ask ℕ)
said s n (takes w q) = none
said s n (steps w) = close (began s w n) (move (conf s n).world ((conf s n).at w)).answer
said s n (sweeps W) = none

-- the call that event n answers
abbrev pub answered : (ℕ → Choice) → ℕ → Option (Call Ask ℕ)
answered s zero = none
answered s (suc n) = said s n (s n)

abbrev pub counts : Call Ask ℕ → Bool
counts c = in_row c.reply

abbrev pub history : (ℕ → Choice) → History Graph Ask ℕ
history s = record { live = λ n. graph (conf s n).world; answered = answered s }

-- every sweep of the run hands over a good world, without an edge on trial, with the live graph of the old one
abbrev pub Honest : (World → Type 0) → (ℕ → Choice) → Type 0
Honest Good s = (n : ℕ) (W : World) → s n ≡ sweeps W → Good (conf s n).world → Good W × Untried W × (graph W ≡ graph (conf s n).world)
