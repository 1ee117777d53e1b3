-- Document 01, "Replies and refusals" and "The steps": taking up and a step, on a catalogue and a table,
-- with the refusals 21 to 26 in their order.
use Rattle.std.specs.Prelude.{ℕ, Bool, false, ltb, Result, Ok, Err}
use Rattle.catalogue.specs.Tests.{pick, one_to}
use Rattle.catalogue.specs.Numbers.{most_workers, head}
use Rattle.catalogue.specs.Catalogue.{Catalogue, vertex_link, at_link}
use Rattle.catalogue.specs.Writes.{commit}
use Rattle.catalogue.specs.Workers.{bare, worker_at, put, busy_at, busy}
use Rattle.catalogue.specs.Steps.Places.{code_known, key_refused, first_place}
use Rattle.catalogue.specs.Steps.Decide.{decide, record_after, write_of, answer_of, refused_or}
use Rattle.catalogue.specs.declared.workers.Place.{Place}
use Rattle.catalogue.specs.declared.workers.Request.{Request}
use Rattle.catalogue.specs.declared.workers.Worker.{Worker}
use Rattle.catalogue.specs.declared.workers.Table.{Table}
use Rattle.catalogue.specs.declared.answers.Refusal.{Refusal}
use Rattle.catalogue.specs.declared.answers.Refusal.TheVariants as refusal
use Rattle.catalogue.specs.declared.answers.Answer.{Answer}
use Rattle.catalogue.specs.declared.answers.Answer.TheVariants.{Going}
use Rattle.catalogue.specs.declared.steps.Decision.{Decision}

-- The catalogue and the table after a call, and its answer.
pub record After : Type 0 where
  pub catalogue : Catalogue
  pub table : Table
  pub answer : Result Answer Refusal

-- A refusal changes nothing.
abbrev pub refuse : Catalogue → Table → Refusal → After
refuse C t r = record { catalogue = C; table = t; answer = Err r }

-- 21: a count that is not 1 to 8.
unfoldable pub count_fits : ℕ → Bool
count_fits count = one_to most_workers count

-- 21: the count, then the worker's number.
unfoldable pub worker_fits : ℕ → ℕ → Bool
worker_fits count w = pick (count_fits count) (ltb w count) false

-- What taking up answers a worker at a place: 22, 24, 25, then 26 if the head's link is torn;
-- else the first place of the request.
unfoldable pub admit : Catalogue → Place → Request → Result Place Refusal
admit C place q =
    pick (busy_at place) (Err refusal.Busy)
    (pick (code_known q.code)
    (pick (key_refused q) (Err refusal.Key)
    (at_link (vertex_link C head) (Err refusal.Torn) (λ first tag. Ok (first_place q first))))
    (Err refusal.Code))

-- The worker stands where it was admitted.
abbrev pub admitted : Catalogue → Table → ℕ → Result Place Refusal → After
admitted C t w (Ok place) = record { catalogue = C; table = put t w (bare place); answer = Ok (Going 0) }
admitted C t w (Err r) = refuse C t r

-- Taking up: 21, and the rest.
unfoldable pub take_up : Catalogue → Table → ℕ → Request → After
take_up C t w q =
    pick (worker_fits t.count w) (admitted C t w (admit C (worker_at t w).place q)) (refuse C t refusal.Worker)

-- A step that has decided: at most one write, the worker's record and the answer; a refusal changes nothing.
abbrev pub perform : Catalogue → Table → ℕ → Worker → Decision → After
perform C t n w d =
    let after = record_after w d in
    refused_or d (refuse C t) (record { catalogue = commit C (write_of d); table = put t n after; answer = answer_of d after })

-- A step: 21, 23, then 26, which the decision brings with it.
unfoldable pub step : Catalogue → Table → ℕ → After
step C t w =
    pick (worker_fits t.count w)
    (pick (busy t w) (perform C t w (worker_at t w) (decide C (worker_at t w))) (refuse C t refusal.Idle))
    (refuse C t refusal.Worker)
