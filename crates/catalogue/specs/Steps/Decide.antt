-- Document 01, "The steps": one step of a worker by its place; what the record is after it, and what is answered.
use Rattle.std.specs.Prelude.{Result, Ok, Err}
use Rattle.catalogue.specs.Tests.{pick}
use Rattle.catalogue.specs.Catalogue.{Catalogue}
use Rattle.catalogue.specs.Workers.{idle, bare, begun, kept, queued, taken, met_count, request_of, ahead}
use Rattle.catalogue.specs.Steps.Places.{key_refused}
use Rattle.catalogue.specs.Steps.Vertices.{step_vertex}
use Rattle.catalogue.specs.Steps.Finding.{step_contains, step_find_u, step_find_v}
use Rattle.catalogue.specs.Steps.Contains.{step_contains_edge}
use Rattle.catalogue.specs.Steps.Edges.{step_edge}
use Rattle.catalogue.specs.Steps.Trial.{trial_shut, trial_open}
use Rattle.catalogue.specs.declared.workers.Place.{Place}
use Rattle.catalogue.specs.declared.workers.Place.TheVariants.{Idle, AddV, RemV, ConV, AddEFindU, RemEFindU, ConEFindU, AddEFindV, RemEFindV, ConEFindV, AddE, RemE, ConE, Trial, TrialOpen}
use Rattle.catalogue.specs.declared.workers.Ahead.{Ahead}
use Rattle.catalogue.specs.declared.workers.Worker.{Worker}
use Rattle.catalogue.specs.declared.writes.Write.{Write}
use Rattle.catalogue.specs.declared.writes.Write.TheVariants.{Nothing}
use Rattle.catalogue.specs.declared.answers.Refusal.{Refusal}
use Rattle.catalogue.specs.declared.answers.Refusal.TheVariants as refusal
use Rattle.catalogue.specs.declared.answers.Answer.{Answer}
use Rattle.catalogue.specs.declared.answers.Answer.TheVariants as answer
use Rattle.catalogue.specs.declared.answers.Stepped.{Stepped}
use Rattle.catalogue.specs.declared.steps.Decision.{Decision}
use Rattle.catalogue.specs.declared.steps.Decision.TheVariants.{Torn, Code, Going, Begins, Keeps, Meets, Takes, Reply}

-- The place says which step it is; a trial also reads what lies ahead of it.
-- An idle worker has no step: a call for it is refused before.
abbrev pub step_at : Catalogue → Place → Ahead → Decision
step_at C Idle a = Torn
step_at C (AddV k p c) a = step_vertex C 1 k p c
step_at C (RemV k p c) a = step_vertex C 2 k p c
step_at C (ConV k c) a = step_contains C k c
step_at C (AddEFindU pair c) a = step_find_u C 4 pair c
step_at C (RemEFindU pair c) a = step_find_u C 5 pair c
step_at C (ConEFindU pair c) a = step_find_u C 6 pair c
step_at C (AddEFindV pair u c) a = step_find_v C 4 pair u c
step_at C (RemEFindV pair u c) a = step_find_v C 5 pair u c
step_at C (ConEFindV pair u c) a = step_find_v C 6 pair u c
step_at C (AddE ends p c) a = step_edge C 4 ends p c
step_at C (RemE ends p c) a = step_edge C 5 ends p c
step_at C (ConE ends c) a = step_contains_edge C ends c
step_at C (Trial ends e) a = trial_shut C a ends e
step_at C (TrialOpen ends e x c) a = trial_open C a ends e x c

-- The paragraph on TORN: the request's keys are looked at before anything else.
unfoldable pub decide_at : Catalogue → Place → Ahead → Decision
decide_at C place a = pick (key_refused (request_of place)) Torn (step_at C place a)

-- What a worker's step decides.
abbrev pub decide : Catalogue → Worker → Decision
decide C w = decide_at C w.place (ahead w.reach)

-- The record after the step: what the new place has no use for is zero; after a reply it is the idle record.
abbrev pub record_after : Worker → Decision → Worker
record_after w Torn = w
record_after w Code = w
record_after w (Going next write) = bare next
record_after w (Begins next write v) = begun next v
record_after w (Keeps next) = kept w next
record_after w (Meets next y) = queued w next y
record_after w (Takes next) = taken w next
record_after w (Reply number write) = idle

-- The one write of the step.
abbrev pub write_of : Decision → Write
write_of Torn = Nothing
write_of Code = Nothing
write_of (Going next write) = write
write_of (Begins next write v) = write
write_of (Keeps next) = Nothing
write_of (Meets next y) = Nothing
write_of (Takes next) = Nothing
write_of (Reply number write) = write

-- Going on, with the count of the set that the new record holds.
abbrev pub going : Worker → Answer
going after = answer.Going (met_count after.reach.met)

-- The answer: a reply, or going on.
abbrev pub answer_of : Decision → Worker → Result Answer Refusal
answer_of Torn after = Err refusal.Torn
answer_of Code after = Err refusal.Code
answer_of (Going next write) after = Ok (going after)
answer_of (Begins next write v) after = Ok (going after)
answer_of (Keeps next) after = Ok (going after)
answer_of (Meets next y) after = Ok (going after)
answer_of (Takes next) after = Ok (going after)
answer_of (Reply number write) after = Ok (answer.Reply number)

-- One step of one record.
abbrev pub stepped : Worker → Decision → Stepped
stepped w d = record { worker = record_after w d; answer = answer_of d (record_after w d) }

-- A decision that refuses, against any other.
abbrev pub refused_or : {A : Type 0} → Decision → (Refusal → A) → A → A
refused_or Torn refused other = refused refusal.Torn
refused_or Code refused other = refused refusal.Code
refused_or (Going next write) refused other = other
refused_or (Begins next write v) refused other = other
refused_or (Keeps next) refused other = other
refused_or (Meets next y) refused other = other
refused_or (Takes next) refused other = other
refused_or (Reply number write) refused other = other
