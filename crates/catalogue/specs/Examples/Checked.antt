-- Document 01, "Checked examples": P1 to P10, one table, of which proofs/ proves one statement.
use Rattle.std.specs.Prelude.{List, [], ◌∷◌, ◌++◌, ℤ, pos, negsuc}
use Rattle.catalogue.specs.Numbers.{least, greatest}
use Rattle.catalogue.specs.Workers.{asks}
use Rattle.catalogue.specs.Choosing.{Choice, takes, steps, sweeps}
use Rattle.catalogue.specs.Examples.Rows.{Example, prints, answers, call, stepped, turn_about}

-- the second key of a request that reads one
abbrev pub unused : ℤ
unused = pos 0

-- P1: the script of the section "Sweep and listing", whole.
abbrev p1 : Example
p1 = prints
    "1 4 22\n1 5\n1 7\n4 5 7\n4 7 5\n0 0 0 0 0 0 0 0 0 0 0 0 0 0 0 0 0 0 0 0 0 0\n"
    "4 2 1\n2 0 1 1\n5 0 1 1\n13 0 4 1\n22 0 4 6\n5\n7\n5 7\n"

-- P2: the reserved keys.
abbrev p2 : Example
p2 = answers 1 (takes 0 (asks 1 least unused) ∷ takes 0 (asks 1 greatest unused) ∷ []) (25 ∷ 25 ∷ [])

-- P3: the keys next to them.
abbrev p3 : Example
p3 = answers 1 (call 0 1 (negsuc 2147483646) unused 1 ++ call 0 1 (pos 2147483646) unused 2) (1 ∷ 1 ∷ [])

-- P4: a series derived from itself.
abbrev p4 : Example
p4 = answers 1 (call 0 1 (pos 5) unused 1 ++ call 0 4 (pos 5) (pos 5) 4) (1 ∷ 6 ∷ [])

-- vertices 1 and 2, then the edges 1 to 2 by worker 0 and 2 to 1 by worker 1, both on trial
abbrev pub both_inserted : List Choice
both_inserted =
    call 0 1 (pos 1) unused 1 ++ (call 0 1 (pos 2) unused 2 ++ (call 0 4 (pos 1) (pos 2) 4 ++ call 1 4 (pos 2) (pos 1) 4))

-- P5: the two trials stepped turn about.
abbrev p5 : Example
p5 = answers 2 (both_inserted ++ turn_about 4) (1 ∷ 1 ∷ 6 ∷ 6 ∷ [])

-- P6: one run out first.
abbrev p6 : Example
p6 = answers 2 (both_inserted ++ (stepped 0 4 ++ stepped 1 4)) (1 ∷ 1 ∷ 6 ∷ 1 ∷ [])

-- vertices 5 and 7, and the edge 5 to 7 on trial by worker 0
abbrev pub on_trial : List Choice
on_trial = call 0 1 (pos 5) unused 1 ++ (call 0 1 (pos 7) unused 2 ++ call 0 4 (pos 5) (pos 7) 4)

-- P7: RemE of an edge on trial.
abbrev p7 : Example
p7 = answers 2 (on_trial ++ call 1 5 (pos 5) (pos 7) 4) (1 ∷ 1 ∷ 5 ∷ [])

-- P8: the target removed during the trial.
abbrev p8 : Example
p8 = answers 2 (on_trial ++ (call 1 2 (pos 7) unused 2 ++ stepped 0 1)) (1 ∷ 1 ∷ 1 ∷ 3 ∷ [])

-- P9: ConE of an edge on trial.
abbrev p9 : Example
p9 = answers 2 (on_trial ++ call 1 6 (pos 5) (pos 7) 4) (1 ∷ 1 ∷ 8 ∷ [])

-- P10: worker counts 0 and 9, for each call on a table.
abbrev p10_none : Example
p10_none = answers 0 (takes 0 (asks 1 (pos 5) unused) ∷ steps 0 ∷ sweeps ∷ []) (21 ∷ 21 ∷ 21 ∷ [])

abbrev p10_nine : Example
p10_nine = answers 9 (takes 0 (asks 1 (pos 5) unused) ∷ steps 0 ∷ sweeps ∷ []) (21 ∷ 21 ∷ 21 ∷ [])

abbrev pub table : List Example
table = p1 ∷ p2 ∷ p3 ∷ p4 ∷ p5 ∷ p6 ∷ p7 ∷ p8 ∷ p9 ∷ p10_none ∷ p10_nine ∷ []
