-- What stands at the start of an output after the word of a refusal and the number of a line were put there.
use Prim.Native.Nat.{ℕ, ◌+◌, ◌≤◌}
use mathlib.Core.List.{List, [], ◌∷◌, ◌++◌}
use mathlib.Core.Path.{◌≡◌, refl, sym, ap, ◌∙◌}
use native.Mathlib.Omega.{arith}
use borrow.Author.Tests.{le-leb}
use borrow.Author.Rules.{rules}
use mathlib.Core.Bool.{true}
use mir.Syntax.{w32}
use mir.Val.{Fits}
use lib.IntN.{ℤ, pos}
use lib.ListN.{length, take, drop, length-append}
use lib.Seq.{take_at}
use Rattle.std.proofs.Common.{Result, Ok, Err}
use Rattle.catalogue.specs.Text.{digits, number}
use Rattle.catalogue.specs.Drill.{drill, printed}
use Rattle.catalogue.specs.Script.{Script, Read, bad, good, read_script}
use Rattle.catalogue.specs.Run.{run_text}
use Rattle.catalogue.specs.Lent.{Memory, Sized, memory_of, output_size, output_fits, LentRun, after_run, lent_run}
use Rattle.catalogue.specs.declared.answers.Refusal.{Refusal}
use Rattle.catalogue.specs.declared.script.RunError.{RunError}
use Rattle.catalogue.specs.declared.script.RunError.TheVariants as run_error
use Rattle.laws.proofs.Picks.{clash}
use Rattle.text.specs.Puts.{put_at}
use Rattle.text.proofs.Runs.{put_then, length_put_at}
use Rattle.text.proofs.Naturals.{natural_short}
use Rattle.run.specs.Promised.{RunsScript}
use Rattle.run.proofs.TurnLaws.{is_sized}

-- the bytes of the word, its number and the spaces after both
abbrev pub word : List ℕ
word = 114 ∷ 101 ∷ 102 ∷ 117 ∷ 115 ∷ 101 ∷ 100 ∷ 32 ∷ 50 ∷ 55 ∷ 32 ∷ []

pub taken : (l b : List ℕ) → take (length b) (put_at l 0 b) ≡ b
taken l b = take_at b (drop (0 + length b) l) (length b) refl

module _ (l m k : List ℕ) (line at r : ℕ) (put : m ≡ put_at l 0 word) (reached : at ≡ 0 + length word)
    (then : k ≡ put_at m at (number (pos line) ++ (10 ∷ []))) (ends : r ≡ at + length (number (pos line) ++ (10 ∷ [])))
    (room : output_size ≤ length l) (fits : Fits w32 line) where
  abbrev text : List ℕ
  text = word ++ (number (pos line) ++ (10 ∷ []))

  short : 0 + length text ≤ length l
  short = omega (arith, natural_short line fits, length-append word (number (pos line) ++ (10 ∷ [])), length-append (number (pos line)) (10 ∷ []))

  whole : k ≡ put_at l 0 text
  whole = put_then 0 at word (number (pos line) ++ (10 ∷ [])) reached l m k put then short

  size : r ≡ length text
  size = omega (arith, ends, reached, length-append word (number (pos line) ++ (10 ∷ [])))

  pub refusal_told : take r k ≡ printed (bad line)
  unfolding number digits
  refusal_told = rw (whole, size) (taken l text)

  pub refusal_within : r ≤ length k
  refusal_within = omega (arith, size, short, ap length whole, length_put_at l 0 text short)

pub ruleset refusal_cases = (refusal_told, refusal_within, rules)

-- ---- what a run answered, where the memory and the output are of the stated sizes

full_output : (output : List ℕ) → output_size ≤ length output → output_fits output ≡ true
unfolding output_fits
full_output output h = le-leb 65536 (length output) h

abbrev ran_as : List ℕ → Memory → List ℕ → LentRun
ran_as text m output = after_run m output (read_script text)

ran_is : (text : List ℕ) (keys : List ℤ) (words output : List ℕ) → Sized keys words → output_size ≤ length output
    → lent_run text (memory_of keys words) output ≡ ran_as text (memory_of keys words) output
unfolding lent_run
ran_is text keys words output z h = rw (is_sized keys words z, full_output output h)

-- by what was read
good_told : (m : Memory) (output : List ℕ) (rd : Read Script) (bytes : ℕ) → (after_run m output rd).answer ≡ Ok bytes
    → (take bytes (after_run m output rd).output ≡ printed rd) × (bytes ≤ length (after_run m output rd).output)
good_told m output (bad n) bytes e = clash (cc)
good_told m output (good s) bytes e =
    let text : List ℕ = run_text s in
    let size : length text ≡ bytes = cc in
    (rw (sym size) (take_at text (drop (length text) output) (length text) refl), omega (arith, size, length-append text (drop (length text) output)))

bad_told : (m : Memory) (output : List ℕ) (rd : Read Script) (line : ℕ) → (after_run m output rd).answer ≡ Err (run_error.BadScript line) → printed (bad line) ≡ printed rd
bad_told m output (bad n) line e = let same : n ≡ line = cc in ap (λ k. printed (bad k)) (sym same)
bad_told m output (good s) line e = clash (cc)

not_refused : (m : Memory) (output : List ℕ) (rd : Read Script) (why : Refusal) → (after_run m output rd).answer ≡ Err (run_error.Refused why) → ⊥
not_refused m output (bad n) why e = clash (cc)
not_refused m output (good s) why e = clash (cc)

module _ (text : List ℕ) (keys : List ℤ) (words output : List ℕ) (z : Sized keys words) (h : output_size ≤ length output)
    (a : Result ℕ RunError) (keys' : List ℤ) (words' output' : List ℕ) (p : RunsScript text (memory_of keys words) output a keys' words' output') where
  answered : a ≡ (ran_as text (memory_of keys words) output).answer
  answered = p.0 ∙ ap (λ r. r.answer) (ran_is text keys words output z h)

  left : output' ≡ (ran_as text (memory_of keys words) output).output
  left = p.1.1.1 ∙ ap (λ r. r.output) (ran_is text keys words output z h)

  pub drill_written : (bytes : ℕ) → a ≡ Ok bytes → take bytes output' ≡ drill text
  unfolding drill
  drill_written bytes e = rw left (good_told (memory_of keys words) output (read_script text) bytes (sym answered ∙ e)).0

  pub drill_within : (bytes : ℕ) → a ≡ Ok bytes → bytes ≤ length output'
  drill_within bytes e = rw left (good_told (memory_of keys words) output (read_script text) bytes (sym answered ∙ e)).1

  pub drill_bad : (e : RunError) (line : ℕ) (r : ℕ) (out : List ℕ) → a ≡ Err e → e ≡ run_error.BadScript line → take r out ≡ printed (bad line) → take r out ≡ drill text
  unfolding drill
  drill_bad e line r out q s t = t ∙ bad_told (memory_of keys words) output (read_script text) line (sym answered ∙ q ∙ ap Err s)

  pub drill_sure : (e : RunError) (why : Refusal) → a ≡ Err e → e ≡ run_error.Refused why → ⊥
  drill_sure e why q s = not_refused (memory_of keys words) output (read_script text) why (sym answered ∙ q ∙ ap Err s)

  -- a refusal keeps the length of the output
  pub drill_room : (e : RunError) (line : ℕ) → a ≡ Err e → e ≡ run_error.BadScript line → output_size ≤ length output'
  drill_room e line q s = rw left (by (read_script text) (sym answered ∙ q ∙ ap Err s))
    where
      by : (rd : Read Script) → (after_run (memory_of keys words) output rd).answer ≡ Err (run_error.BadScript line) → output_size ≤ length (after_run (memory_of keys words) output rd).output
      by (bad n) q = h
      by (good s) q = clash (cc)

pub ruleset drill_cases = (drill_written, drill_within, drill_bad, drill_sure, drill_room, rules)
