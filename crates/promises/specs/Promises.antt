-- Demand 3: what holds of every run. Stated over the definitions that the contracts of the code cite;
-- proved in proofs/.
use Rattle.std.specs.Prelude.{ℕ, suc, ◌≤◌, ◌<◌, true, false, List, map, ◌≡◌, ℤ, length, Err}
use Rattle.std.proofs.Math.Option.{some}
use Rattle.catalogue.specs.Catalogue.{Catalogue}
use Rattle.catalogue.specs.Workers.{request_of}
use Rattle.catalogue.specs.Calls.{take_up, step}
use Rattle.catalogue.specs.Choosing.{Choice, takes, steps, sweeps, Moment, start}
use Rattle.catalogue.specs.Run.{run}
use Rattle.catalogue.specs.Script.{Script, good, read_script}
use Rattle.catalogue.specs.Soundness.{Asks, sweep, sound}
use Rattle.catalogue.specs.Sweep.{any_busy, sweep_into}
use Rattle.catalogue.specs.declared.answers.Refusal.TheVariants.{Torn}
use Rattle.catalogue.specs.declared.workers.Ends.{Ends}
use Rattle.row.specs.Rows.Row.{Call, Entry, Explains}
use Rattle.promises.specs.Moments.{Keyed, Given, at, moment, place_of}
use Rattle.promises.specs.Graphs.{Graph, empty, live, Walk}
use Rattle.promises.specs.Alone.{Ask, Alone}
use Rattle.promises.specs.Bounds.{ConVBound, ConEBound, TrialBound, TrialAlone}
use Rattle.promises.specs.Histories.{history, in_row, replies_of}
use Rattle.promises.specs.Outside.{Replies, left, Lacks, Needed, Tries, Rival, TrialEdge, Tried, Lives, Crosses, Closes, Undisturbed}

-- No series is derived from itself, over however many derivations between live series.
abbrev pub NoLoop : Type 0
NoLoop =
    (workers : ℕ) (choices : List Choice) → Given workers choices → (k l : ℤ)
    → (live (at workers choices).catalogue).derived k l ≡ true → Walk (live (at workers choices).catalogue) k l → ⊥

-- A call that is refused as torn.
abbrev pub RefusedTorn : Moment → Choice → Type 0
RefusedTorn m (takes w q) = (take_up m.catalogue m.table w q).answer ≡ Err Torn
RefusedTorn m (steps w) = (step m.catalogue m.table w).answer ≡ Err Torn
RefusedTorn m sweeps = (sweep_into m.catalogue m.catalogue m.table).answer ≡ Err Torn

-- There is none, whatever the choice.
abbrev pub NeverTorn : Type 0
NeverTorn = (workers : ℕ) (choices : List Choice) → Given workers choices → (c : Choice) → Keyed c → RefusedTorn (at workers choices) c → ⊥

-- The catalogue is sound: for a listing at every moment, for a sweep at rest.
abbrev pub SoundAtRest : Type 0
SoundAtRest =
    (workers : ℕ) (choices : List Choice) → Given workers choices → (asks : Asks)
    → (asks ≡ sweep → any_busy (at workers choices).table workers ≡ false) → sound asks (at workers choices).catalogue ≡ true

-- Running a script that is accepted is such a run, with the same replies in the same order.
-- So all this holds of what the drill prints.
pub record Played (s : Script) : Type 0 where
  pub choices : List Choice
  pub given : Given (length s.counts) choices
  pub same : (run s).catalogue ≡ (at (length s.counts) choices).catalogue
  pub replies : map (λ r. (r.worker, r.reply)) (run s).replies ≡ replies_of (start (length s.counts)) choices

abbrev pub ScriptsPlayed : Type 0
ScriptsPlayed = (text : List ℕ) (s : Script) → read_script text ≡ good s → Played s

-- The answered calls other than those replied 6, 7 and 9 stand in one row: each once,
-- each between its first and its last choice. Done one at a time in that order, from the empty graph,
-- they give the replies that were given and the live graph.
abbrev pub OneRow : Type 0
OneRow =
    (workers : ℕ) (choices : List Choice) → Given workers choices
    → (row : List (Entry Ask ℕ)) × Explains Alone in_row (history workers choices) (length choices) row

-- The graph that the row begins with is the empty one.
abbrev pub BeginsEmpty : Type 0
BeginsEmpty = (workers : ℕ) (choices : List Choice) → (history workers choices).live 0 ≡ empty

-- A choice that answers no call of the row keeps the live graph: taking up, going on, a refusal, a sweep,
-- and the replies 6, 7 and 9.
abbrev pub LiveKept : Type 0
LiveKept =
    (workers : ℕ) (choices : List Choice) → Given workers choices → (n : ℕ) → let h = history workers choices in
    ((c : Call Ask ℕ) → h.answered (suc n) ≡ some c → in_row c ≡ false) → h.live (suc n) ≡ h.live n

-- A call that is alone has at most one outcome on any graph.
-- So the calls before it in a row determine its reply and its graph.
abbrev pub OneAtMost : Type 0
OneAtMost = (g : Graph) (q : Ask) (m n : ℕ) (h i : Graph) → Alone g q m h → Alone g q n i → (m ≡ n) × (h ≡ i)

-- And it has one, whatever is asked, on the live graph of any catalogue.
pub record Outcome (g : Graph) (q : Ask) : Type 0 where
  pub reply : ℕ
  pub graph : Graph
  pub alone : Alone g q reply graph
  pub only : (n : ℕ) (h : Graph) → Alone g q n h → (n ≡ reply) × (h ≡ graph)

abbrev pub OneOutcome : Type 0
OneOutcome = (C : Catalogue) (q : Ask) → Outcome (live C) q

-- Reply 9 is given exactly where a node is needed and its pool is used up:
-- what was to be added is not in the live graph then. It changes nothing.
abbrev pub NoRoom : Type 0
NoRoom =
    (workers : ℕ) (choices : List Choice) → Given workers choices → (w : ℕ) → w < workers → let m = at workers choices in
    (Replies m w 9 → Lacks m.catalogue (place_of m w)) × (Lacks m.catalogue (place_of m w) → Replies m w 9)
    × (Replies m w 9 → Needed (live m.catalogue) (place_of m w)) × (Replies m w 9 → left m w ≡ m.catalogue)

-- Reply 7 is given only while another worker tries the pair that w was asked for, and changes nothing.
abbrev pub OnTrial : Type 0
OnTrial =
    (workers : ℕ) (choices : List Choice) → Given workers choices → (w : ℕ) → w < workers → let m = at workers choices in
    Replies m w 7 → let p = (request_of (place_of m w)).pair in Rival workers m w p × (left m w ≡ m.catalogue)

-- The edges on trial are the own edges of the workers that try: each is tried by exactly one,
-- and what a worker tries is on trial in the list of its u.
abbrev pub EdgesTried : Type 0
EdgesTried =
    (workers : ℕ) (choices : List Choice) → Given workers choices → let m = at workers choices in
    ((x e : ℕ) → TrialEdge m.catalogue x e → Tried workers m x e)
    × ((w : ℕ) → w < workers → (ends : Ends) (e : ℕ) → Tries ends e (place_of m w) → TrialEdge m.catalogue ends.u e)

-- Reply 6 is given only where the trial has come from the target back to the source,
-- over edges that stood when crossed. Nothing live changes.
abbrev pub Cycle : Type 0
Cycle =
    (workers : ℕ) (choices : List Choice) → Given workers choices → (w : ℕ) → w < workers → let m = at workers choices in
    Replies m w 6 → Closes workers choices w × (live (left m w) ≡ live m.catalogue)

-- If no other edge was on trial meanwhile, the pair would have closed a loop when it was put in:
-- whatever the trial crossed was live then, and so a walk led from l to k.
abbrev pub CycleAlone : Type 0
CycleAlone =
    (workers : ℕ) (choices : List Choice) → Given workers choices → (w : ℕ) → w < workers → (z : Closes workers choices w)
    → Undisturbed workers choices z.e z.first (length choices) → let C = (moment workers choices z.first).catalogue in
    ((n x y : ℕ) → z.first ≤ n → n < length choices → (r : Crosses workers choices w z.ends z.e n x y) → Lives C x r.edge y)
    × Walk (live C) z.ends.pair.k z.ends.pair.l

-- All of them, with the bounds on steps.
pub record Promises : Type 0 where
  pub no_loop : NoLoop
  pub never_torn : NeverTorn
  pub sound_at_rest : SoundAtRest
  pub scripts_played : ScriptsPlayed
  pub one_row : OneRow
  pub begins_empty : BeginsEmpty
  pub live_kept : LiveKept
  pub one_at_most : OneAtMost
  pub one_outcome : OneOutcome
  pub no_room : NoRoom
  pub on_trial : OnTrial
  pub edges_tried : EdgesTried
  pub cycle : Cycle
  pub cycle_alone : CycleAlone
  pub con_v_bound : ConVBound
  pub con_e_bound : ConEBound
  pub trial_bound : TrialBound
  pub trial_alone : TrialAlone
