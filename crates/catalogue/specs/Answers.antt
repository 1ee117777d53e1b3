-- Document 01, "Replies and refusals": the numbers of the paper for each answer.
use Rattle.std.specs.Prelude.{ℕ, Result, Ok, Err}
use Rattle.catalogue.specs.declared.answers.Refusal.{Refusal}
use Rattle.catalogue.specs.declared.answers.Refusal.TheVariants.{Room, Worker, Busy, Idle, Code, Key, Torn}
use Rattle.catalogue.specs.declared.answers.Answer.{Answer}
use Rattle.catalogue.specs.declared.answers.Answer.TheVariants.{Going, Reply}
use Rattle.catalogue.specs.declared.script.RunError.{RunError}
use Rattle.catalogue.specs.declared.script.RunError.TheVariants as run_error

-- The second table: the refusals' numbers. 27 stands with the scripts.
abbrev pub refusal_number : Refusal → ℕ
refusal_number Room = 20
refusal_number Worker = 21
refusal_number Busy = 22
refusal_number Idle = 23
refusal_number Code = 24
refusal_number Key = 25
refusal_number Torn = 26

abbrev pub script_refusal : ℕ
script_refusal = 27

-- What taking up or a step returns: 0 for going on, else the number of the reply or refusal.
-- With it comes how many series the trial has met: 0 with a reply or a refusal.
pub record Told : Type 0 where
  pub number : ℕ
  pub met : ℕ

abbrev pub told : Result Answer Refusal → Told
told (Ok (Going met)) = record { number = 0; met = met }
told (Ok (Reply number)) = record { number = number; met = 0 }
told (Err refusal) = record { number = refusal_number refusal; met = 0 }

-- A fresh catalogue and a sweep return 0 when done.
abbrev pub made_number : Result (Unit {0}) Refusal → ℕ
made_number (Ok u) = 0
made_number (Err refusal) = refusal_number refusal

-- What a listing or a script returns: 0 and the bytes written, or the refusal; with 27 the line.
pub record ToldText : Type 0 where
  pub number : ℕ
  pub bytes : ℕ
  pub line : ℕ

abbrev pub told_listed : Result ℕ Refusal → ToldText
told_listed (Ok bytes) = record { number = 0; bytes = bytes; line = 0 }
told_listed (Err refusal) = record { number = refusal_number refusal; bytes = 0; line = 0 }

abbrev pub told_ran : Result ℕ RunError → ToldText
told_ran (Ok bytes) = record { number = 0; bytes = bytes; line = 0 }
told_ran (Err (run_error.Refused refusal)) = record { number = refusal_number refusal; bytes = 0; line = 0 }
told_ran (Err (run_error.BadScript line)) = record { number = script_refusal; bytes = 0; line = line }
