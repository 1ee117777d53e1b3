-- The history of a run is that of the machine that makes it, read as the run's;
-- so each event of the run is one of those that make a row.
use Prim.Native.Nat.{ℕ, zero, suc}
use mathlib.Core.Bool.{Bool, true, false, not, ◌&&◌, ◌||◌}
use mathlib.Core.List.{List}
use mathlib.Core.Option.{Option, none, some}
use mathlib.Core.Path.{◌≡◌, refl, sym, ap, ap₂, ◌∙◌, fun_ext}
use lib.Dec.{eqb}
use lib.ListN.{length}
use Rattle.catalogue.specs.Tests.{pick}
use Rattle.catalogue.specs.Choosing.{Choice}
use Rattle.laws.proofs.Picks.{clash}
use Rattle.row.specs.Rows.Row.{Call, Event, quiet, acts, looks, By}
use Rattle.row.proofs.Assemble.{assemble}
use Rattle.row.proofs.Tests.{and_true}
use Rattle.row.specs.Machine.World.{World, graph, alone}
use Rattle.row.specs.Machine.Choices.{takes, steps, sweeps, conf, Began, began, opens, counts, Honest}
use Rattle.row.specs.Machine.Choices
use Rattle.row.specs.Machine.World
use Rattle.row.proofs.Graphs.Good.{WGood}
use Rattle.row.proofs.Steps.VertexDoing.{same_between}
use Rattle.row.proofs.Events.Happen.{happens}
use Rattle.row.proofs.Graphs.Loops.{loopless}
use Rattle.promises.specs.Moments.{moment, chosen}
use Rattle.promises.specs.Graphs.{live}
use Rattle.promises.specs.Alone.{Ask, Alone}
use Rattle.promises.specs.Histories.{since, begun, answered_by, answered, history, in_row}
use Rattle.promises.specs.Promises.{OneRow, LiveKept}
use Rattle.promises.proofs.Lists.Live.{series_is, derived_is}
use Rattle.promises.proofs.Runs.Telling.{asked_of, taken_of, begun_of, call_of, answered_of, graph_of, said_by}
use Rattle.promises.proofs.Runs.Schedule.{Run, run}
use Rattle.promises.proofs.Rows.Sequential.{Ended, graph_path, alone_is}

-- ---- small

since_is : (o : Option World.Ask) (n : ℕ) (b : Began) → begun_of (Choices.since o n b) ≡ since (taken_of o) n (begun_of b)
since_is none n b = refl
since_is (some q) n b = refl

said_is : (s : ℕ → Choices.Choice) (n : ℕ) (c : Choices.Choice) → Choices.said s n c ≡ said_by (λ w. began s w n) (conf s n) c
said_is s n (takes w q) = refl
said_is s n (steps w) = refl
said_is s n (sweeps W) = refl

counts_is : (c : Call World.Ask ℕ) → in_row (call_of c) ≡ counts c
counts_is c = by_tests (eqb c.reply 6) (eqb c.reply 7) (eqb c.reply 9)
  where
    by_tests : (a b d : Bool) → pick a false (pick b false (pick d false true)) ≡ not (a || (b || d))
    by_tests true b d = refl
    by_tests false true d = refl
    by_tests false false true = refl
    by_tests false false false = refl

-- a call that does not count, read as one of the run
silent : (o : Option (Call World.Ask ℕ)) → ((c : Call World.Ask ℕ) → o ≡ some c → counts c ≡ false)
    → (c : Call Ask ℕ) → answered_of o ≡ some c → in_row c ≡ false
silent none f c e = clash (cc)
silent (some d) f c e = let z : call_of d ≡ c = cc in rw (← z) (counts_is d ∙ f d refl)

-- ---- the history

module _ (workers : ℕ) (choices : List Choice) (r : Run workers choices) where
  abbrev s : ℕ → Choices.Choice
  s = r.schedule

  begun_is : (w n : ℕ) → begun_of (began s w n) ≡ begun workers choices w n
  unfolding began begun
  begun_is w zero = refl
  begun_is w (suc n) = since_is (opens (conf s n) (s n) w) (suc n) (began s w n) ∙ ap₂ (λ o b. since o (suc n) b) ((r.same n).taken w) (begun_is w n)

  answered_is : (n : ℕ) → answered_of (Choices.answered s n) ≡ answered workers choices n
  answered_is zero = refl
  answered_is (suc n) =
      ap answered_of (said_is s n (s n)) ∙ (r.same n).answered (λ w. began s w n)
      ∙ ap (λ b. answered_by b (moment workers choices n) (chosen workers choices n)) (fun_ext (λ w. begun_is w n))

  abbrev world : ℕ → World
  world n = (conf s n).world

  good : (n : ℕ) → WGood (world n)
  good n = (r.held n).fine.good

  live_is : (n : ℕ) → graph_of (graph (world n)) ≡ live (moment workers choices n).catalogue
  live_is n =
      let C = (moment workers choices n).catalogue in
      graph_path (λ k. sym (series_is C (world n) (r.held n).shows (good n) k)) (λ k l. sym (derived_is C (world n) (r.held n).shows (good n) k l))

  -- ---- the events

  ended : (n : ℕ) → Ended (graph (world n))
  ended n i j e =
      let g : World.Graph = graph (world n) in
      let z = and_true (g.e i j) (g.v i && g.v j) (ap (λ f. f i j) (sym (same_between (world n) (good n))) ∙ e) in
      and_true (g.v i) (g.v j) z.1

  does_is : (i j : ℕ) (c : Call World.Ask ℕ) → alone (graph (world i)) c.request ≡ (c.reply, graph (world j))
      → Alone (live (moment workers choices i).catalogue) (asked_of c.request) c.reply (live (moment workers choices j).catalogue)
  does_is i j c p =
      rw (← live_is i, ← live_is j)
      (alone_is (graph (world i)) (graph (world j)) (ended i) (loopless (world j) (good j)) c.reply c.request p)

  still : (j : ℕ) → graph (world (suc j)) ≡ graph (world j) → live (moment workers choices (suc j)).catalogue ≡ live (moment workers choices j).catalogue
  still j e = sym (live_is (suc j)) ∙ ap graph_of e ∙ live_is j

  event_is : (j : ℕ) → Event (By alone) counts (Choices.history s) j → Event Alone in_row (history workers choices) j
  event_is j (quiet q e) = quiet (λ c a. silent (Choices.answered s (suc j)) q c (answered_is (suc j) ∙ a)) (still j e)
  event_is j (acts c a b f d) = acts (call_of c) (sym (answered_is (suc j)) ∙ ap answered_of a) (counts_is c ∙ b) f (does_is j (suc j) c d)
  event_is j (looks c a b e t f u d) =
      looks (call_of c) (sym (answered_is (suc j)) ∙ ap answered_of a) (counts_is c ∙ b) (still j e) t f u (does_is t t c d)

  honest : Honest WGood s
  honest n W e g = (r.same n).honest W e

  event : (j : ℕ) → Event Alone in_row (history workers choices) j
  event j = event_is j (happens s honest j)

pub one_row : OneRow
one_row workers choices g = assemble _ _ _ Alone in_row (history workers choices) (event workers choices (run workers choices g)) (length choices)

-- what answers no call of the row is quiet, or only looks
kept : (workers : ℕ) (choices : List Choice) {j : ℕ} → Event Alone in_row (history workers choices) j
    → ((c : Call Ask ℕ) → answered workers choices (suc j) ≡ some c → in_row c ≡ false) → (history workers choices).live (suc j) ≡ (history workers choices).live j
kept workers choices (quiet q e) f = e
kept workers choices (acts c a b i d) f = clash (cc (f c a))
kept workers choices (looks c a b e t i u d) f = e

pub live_kept : LiveKept
live_kept workers choices g n f = kept workers choices (event workers choices (run workers choices g) n) f
