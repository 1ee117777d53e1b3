-- Step bounds: how many steps of its own a call takes at most, whatever the others do.
-- Steps are counted in the choices of a run; nothing is stored for it.
use Rattle.std.specs.Prelude.{ℕ, suc, ◌+◌, ◌*◌, ◌≤◌, Bool, true, false, List, [], ◌∷◌, ◌≡◌, eqb, length, take, replicate, Result, Ok, Err}
use Rattle.catalogue.specs.Tests.{pick}
use Rattle.catalogue.specs.Calls.{take_up, step}
use Rattle.catalogue.specs.Live.{edges_of}
use Rattle.catalogue.specs.Choosing.{Choice, takes, steps, sweeps, Moment, choose, after}
use Rattle.catalogue.specs.Workers.{worker_at, asks_pair}
use Rattle.catalogue.specs.declared.answers.Refusal.{Refusal}
use Rattle.catalogue.specs.declared.answers.Answer.{Answer}
use Rattle.catalogue.specs.declared.answers.Answer.TheVariants.{Going, Reply}
use Rattle.catalogue.specs.declared.workers.Ends.{Ends}
use Rattle.catalogue.specs.declared.workers.Pair.{Pair}
use Rattle.catalogue.specs.declared.workers.Place.TheVariants as place
use Rattle.catalogue.specs.declared.workers.Prev.{Prev}
use Rattle.promises.specs.Moments.{All, Fitting, Keyed, Given, at, place_of}
use Rattle.promises.specs.Histories.{accepted}

-- ---- steps of one worker, and when they are replied to

-- the choice lets w step
abbrev pub lets : ℕ → Choice → Bool
lets w (takes v q) = false
lets w (steps v) = eqb v w
lets w sweeps = false

-- how many of the choices do
unfoldable pub own_steps : ℕ → List Choice → ℕ
own_steps w [] = 0
own_steps w (c ∷ cs) = pick (lets w c) 1 0 + own_steps w cs

abbrev pub is_reply : Result Answer Refusal → Bool
is_reply (Ok (Going met)) = false
is_reply (Ok (Reply n)) = true
is_reply (Err r) = false

-- a step of w at this moment is replied to
abbrev pub step_replies : ℕ → Moment → Bool
step_replies w m = is_reply (step m.catalogue m.table w).answer

-- From a moment on, none of the choices that let w step is replied to.
pub data Unanswered (w : ℕ) : Moment → List Choice → Type 0 where
  none : {m : Moment} → Unanswered w m []
  also : {m : Moment} {c : Choice} {cs : List Choice} → (lets w c ≡ true → step_replies w m ≡ false) → Unanswered w (choose m c).moment cs
      → Unanswered w m (c ∷ cs)

-- From a moment of a run on, whatever is chosen, w steps at most so often without a reply.
abbrev pub QuietMost : ℕ → ℕ → Moment → Type 0
QuietMost w most m = (cs : List Choice) → All Keyed cs → Unanswered w m cs → own_steps w cs ≤ most

-- ---- calls that only look

-- So often at most after a request with this code was taken up, at any moment of any run.
abbrev pub CallMost : ℕ → ℕ → Type 0
CallMost code most =
    (workers : ℕ) (choices : List Choice) → Given workers choices → (w : ℕ) (pair : Pair) → let q = asks_pair code pair in Fitting q
    → accepted (take_up (at workers choices).catalogue (at workers choices).table w q).answer ≡ true
    → QuietMost w most (choose (at workers choices) (takes w q)).moment

-- ConV answers within 256 steps, the taking up and the reply included.
abbrev pub ConVBound : Type 0
ConVBound = CallMost 3 254

-- ConE answers within 2,559.
abbrev pub ConEBound : Type 0
ConEBound = CallMost 6 2557

-- ---- trials

-- A step of w inserts its edge: before it w looks, at p and c, for the edge's place in the list of u;
-- after it w is on trial, with the edge e to v.
pub record Inserts (w : ℕ) (m : Moment) : Type 0 where
  pub ends : Ends
  pub p : Prev
  pub c : ℕ
  pub e : ℕ
  pub before : place_of m w ≡ place.AddE ends p c
  pub tried : place_of (choose m (steps w)).moment w ≡ place.Trial ends e

-- A trial answers within 2,556 steps after its insertion.
abbrev pub TrialBound : Type 0
TrialBound =
    (workers : ℕ) (choices : List Choice) → Given workers choices → (w : ℕ) → Inserts w (at workers choices)
    → QuietMost w 2555 (choose (at workers choices) (steps w)).moment

-- the sum of a function over a list
unfoldable pub total : (ℕ → ℕ) → List ℕ → ℕ
total f [] = 0
total f (x ∷ xs) = f x + total f xs

-- what w has taken from the front of its queue;
-- how many edge nodes there are in the lists of these vertices, marked ones included
abbrev pub taken_by : Moment → ℕ → List ℕ
taken_by m w = let r = (worker_at m.table w).reach in take r.front r.queue

abbrev pub edges_taken : Moment → ℕ → ℕ
edges_taken m w = total (λ x. length (edges_of m.catalogue x)) (taken_by m w)

-- A trial runs alone, and is replied 1 at the last of its steps after the insertion.
-- It makes two steps for each vertex taken, one for each edge node in their lists, and the last.
abbrev pub TrialAlone : Type 0
TrialAlone =
    (workers : ℕ) (choices : List Choice) → Given workers choices → (w : ℕ) → Inserts w (at workers choices)
    → (n : ℕ) → (let alone : List Choice = replicate n (steps w) in
    let inserted : Moment = (choose (at workers choices) (steps w)).moment in
    let last : Moment = after inserted alone in
    Unanswered w inserted alone → (step last.catalogue last.table w).answer ≡ Ok (Reply 1)
    → suc n ≡ 2 * length (taken_by last w) + edges_taken last w + 1)
