-- Document 01, "Sweep and listing", the last sentence on output: what the drill prints for what it reads.
use Rattle.std.specs.Prelude.{ℕ, List, [], ◌∷◌, ◌++◌}
use Rattle.catalogue.specs.Answers.{script_refusal}
use Rattle.catalogue.specs.Text.{line_end, space, decimal}
use Rattle.catalogue.specs.Script.{Script, Read, bad, good, read_script}
use Rattle.catalogue.specs.Run.{run_text}

-- the word with which a refusal is printed
abbrev pub refused_word : List ℕ
refused_word = 114 ∷ 101 ∷ 102 ∷ 117 ∷ 115 ∷ 101 ∷ 100 ∷ []

abbrev pub printed : Read Script → List ℕ
printed (bad n) = refused_word ++ (space ∷ (decimal script_refusal ++ (space ∷ (decimal n ++ (line_end ∷ [])))))
printed (good s) = run_text s

-- The drill's catalogue and output are of the stated sizes, so 27 is the only refusal that it can meet.
unfoldable pub drill : List ℕ → List ℕ
drill input = printed (read_script input)
