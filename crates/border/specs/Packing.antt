-- What a call returns to a host in one number: document 01's number of the answer, and 256 times what comes with it.
use Rattle.std.specs.Prelude.{ℕ, ◌+◌, ◌*◌, Result}
use Rattle.catalogue.specs.Answers.{told, made_number, told_listed, told_ran}
use Rattle.catalogue.specs.declared.answers.Refusal.{Refusal}
use Rattle.catalogue.specs.declared.answers.Answer.{Answer}
use Rattle.catalogue.specs.declared.script.RunError.{RunError}

abbrev pub packed : ℕ → ℕ → ℕ
packed number more = number + 256 * more

-- taking up and a step: how many series the trial has met
unfoldable pub packed_answer : Result Answer Refusal → ℕ
packed_answer a = packed (told a).number (told a).met

-- a listing: how many bytes it wrote
unfoldable pub packed_listed : Result ℕ Refusal → ℕ
packed_listed a = packed (told_listed a).number (told_listed a).bytes

-- a fresh catalogue and a sweep: nothing
unfoldable pub packed_made : Result (Unit {0}) Refusal → ℕ
packed_made a = packed (made_number a) 0

-- a script: how many bytes its result has, or with 27 which line is bad; one of the two is 0
unfoldable pub packed_ran : Result ℕ RunError → ℕ
packed_ran a = packed (told_ran a).number ((told_ran a).bytes + (told_ran a).line)
