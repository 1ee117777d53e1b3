-- Examples beside P1 to P10, for what those ten do not cover.
use Rattle.std.specs.Prelude.{ℕ, List, [], ◌∷◌, ◌++◌, pos, negsuc}
use Rattle.catalogue.specs.Numbers.{least, greatest}
use Rattle.catalogue.specs.Choosing.{Choice, sweeps}
use Rattle.catalogue.specs.Workers.{asks}
use Rattle.catalogue.specs.Script.{Script}
use Rattle.catalogue.specs.Examples.Rows.{Example, prints, answers, meets, call, stepped}
use Rattle.catalogue.specs.Examples.Checked.{unused, both_inserted, on_trial}

-- The target of an ADDED edge is removed: the contents line still counts the edge, and no line shows it.
abbrev dead_target : Example
dead_target = prints
    "1 4 16\n1 5\n1 7\n4 5 7\n2 7\n0 0 0 0 0 0 0 0 0 0 0 0 0 0 0 0\n"
    "4 1 1\n2 0 1 1\n5 0 1 1\n13 0 4 1\n16 0 2 1\n5\n"

-- Keys around zero, listed in rising order; a second worker has no request, and its turn does nothing but count.
abbrev around_zero : Example
around_zero = prints
    "2 3 0 8\n1 3\n1 -3\n1 0\n0 1 0 0 0 0 0 0\n"
    "3 3 0\n3 0 1 1\n5 0 1 1\n8 0 1 1\n-3\n0\n3\n"

-- A bad line, as the drill names it.
abbrev bad_line : Example
bad_line = prints "1 1 1\n7 5\n0\n" "refused 27 2\n"

-- Replies that P1 to P10 do not give: 2 for codes 1 to 3, 4 and 7, and 1 for codes 3, 5 and 6.
abbrev other_replies : Example
other_replies = answers 2
    (on_trial ++ (call 1 4 (pos 5) (pos 7) 4 ++ (stepped 0 3 ++ (call 1 4 (pos 5) (pos 7) 4 ++ (call 1 6 (pos 5) (pos 7) 4
    ++ (call 1 3 (pos 7) unused 2 ++ (call 1 5 (pos 5) (pos 7) 4 ++ (call 1 5 (pos 5) (pos 7) 5 ++ (call 1 1 (pos 5) unused 1
    ++ (call 1 2 (pos 6) unused 2 ++ (call 1 3 (pos 6) unused 2 ++ call 1 4 (pos 6) (pos 5) 2)))))))))))
    (1 ∷ 1 ∷ 7 ∷ 1 ∷ 4 ∷ 1 ∷ 1 ∷ 1 ∷ 5 ∷ 2 ∷ 2 ∷ 2 ∷ 3 ∷ [])

-- A sweep keeps the live graph under new numbers: of 4, 5 and 7 the first is removed;
-- the edge 5 to 7 is there after it, and 7 to 5 closes a loop.
abbrev swept : Example
swept = answers 1
    (call 0 1 (pos 4) unused 1 ++ (call 0 1 (pos 5) unused 2 ++ (call 0 1 (pos 7) unused 3 ++ (call 0 4 (pos 5) (pos 7) 9
    ++ (call 0 2 (pos 4) unused 1 ++ (sweeps ∷ (call 0 6 (pos 5) (pos 7) 4 ++ (call 0 4 (pos 7) (pos 5) 8 ++ call 0 3 (pos 4) unused 1))))))))
    (1 ∷ 1 ∷ 1 ∷ 1 ∷ 1 ∷ 1 ∷ 6 ∷ 2 ∷ [])

-- The number of series met, choice by choice: 1 when a trial begins, 2 once it has crossed the other's edge,
-- 0 with the reply.
abbrev met_counts : Example
met_counts = meets 2 (both_inserted ++ stepped 0 4) (0 ∷ 0 ∷ 0 ∷ 0 ∷ 0 ∷ 0 ∷ 0 ∷ 0 ∷ 0 ∷ 1 ∷ 0 ∷ 0 ∷ 0 ∷ 0 ∷ 1 ∷ 1 ∷ 2 ∷ 2 ∷ 0 ∷ [])

-- Two workers in each other's way: looks that unlink and mark, edges to removed targets,
-- a key removed and added again.
abbrev crossing_removals : Example
crossing_removals = prints
    "2 9 5 86\n1 1\n1 2\n1 3\n4 3 2\n4 3 1\n4 3 3\n1 1\n5 3 3\n4 3 1\n4 3 1\n2 1\n1 1\n6 3 3\n4 1 3\n0 0 0 0 0 0 0 0 0 0 1 0 0 0 1 0 1 0 1 1 0 0 0 0 0 0 0 0 0 0 0 0 0 0 0 0 1 0 0 0 0 0 0 0 0 0 0 0 0 0 0 1 1 1 1 1 1 1 1 1 1 0 1 1 1 1 1 0 1 1 1 1 1 1 1 1 1 1 1 1 0 0 0 0 0 0\n"
    "12 3 1\n2 0 1 1\n5 0 1 1\n9 0 1 1\n24 0 4 1\n33 0 4 1\n45 0 4 6\n47 0 1 2\n52 1 4 4\n54 1 2 1\n57 1 1 1\n69 1 6 8\n86 0 5 5\n1\n2\n3\n3 2\n"

-- Three workers: looks that start again, trials whose ends are removed, vertices dropped from the queue.
abbrev starting_again : Example
starting_again = prints
    "3 9 3 5 90\n1 1\n1 2\n1 3\n1 4\n2 1\n1 2\n4 4 1\n4 2 3\n2 3\n4 1 4\n4 4 2\n1 4\n1 4\n1 2\n4 1 4\n1 4\n1 1\n0 0 0 0 0 0 0 0 0 0 0 0 2 2 1 0 2 2 2 2 2 0 0 1 2 2 0 1 1 1 1 1 2 2 2 2 2 0 0 0 0 0 1 1 0 0 0 0 0 0 2 1 0 0 0 0 0 0 1 1 1 1 1 1 1 0 0 0 0 0 0 1 2 2 2 2 2 0 0 0 0 0 1 1 1 1 1 1 1 1\n"
    "16 2 2\n2 0 1 1\n5 0 1 1\n9 0 1 1\n19 2 1 1\n25 2 1 2\n39 0 1 2\n41 0 2 1\n43 1 4 3\n46 0 1 2\n51 2 4 3\n53 0 4 3\n68 0 4 1\n71 0 2 1\n76 2 1 2\n84 1 4 1\n87 1 1 2\n2\n4\n4 2\n"

-- Three workers with trials that meet the same vertices, removed ones among them.
abbrev crossed_trials : Example
crossed_trials = prints
    "3 5 9 5 65\n1 1\n1 2\n1 3\n4 1 2\n4 3 2\n4 3 3\n4 3 2\n4 1 3\n4 3 3\n1 1\n4 3 1\n5 3 3\n4 1 2\n4 2 2\n4 2 1\n2 1\n6 1 2\n3 2\n1 3\n0 0 0 0 0 0 0 0 0 0 0 0 0 0 0 0 0 0 0 1 0 0 1 2 2 2 2 2 0 2 2 0 0 0 0 0 1 1 1 1 1 2 0 0 2 2 2 0 0 0 0 1 1 1 0 0 0 0 0 1 1 1 1 1 1\n"
    "8 2 1\n2 0 1 1\n5 0 1 1\n9 0 1 1\n17 0 4 1\n45 2 4 6\n47 2 2 1\n49 0 4 1\n54 1 4 6\n2\n3\n3 2\n"

-- The second key of codes 1 to 3 is not looked at. A removed vertex is passed by ConV, and is not there.
abbrev removed_passed : Example
removed_passed = answers 1
    (call 0 1 (pos 5) greatest 1 ++ (call 0 1 (pos 7) greatest 2 ++ (call 0 2 (pos 5) least 1 ++ (call 0 3 (pos 7) least 2 ++ call 0 3 (pos 5) unused 1))))
    (1 ∷ 1 ∷ 1 ∷ 1 ∷ 2 ∷ [])

-- vertices 1, 2 and 3
abbrev three_vertices : List Choice
three_vertices = call 0 1 (pos 1) unused 1 ++ (call 0 1 (pos 2) unused 2 ++ call 0 1 (pos 3) unused 3)

-- ConE passes an edge of lower key; it answers 8 where a vertex is missing,
-- and where one was removed after it was found.
abbrev contained : Example
contained = answers 2
    (three_vertices ++ (call 0 4 (pos 1) (pos 2) 7 ++ (call 0 4 (pos 1) (pos 3) 9 ++ (call 0 6 (pos 1) (pos 3) 6 ++ (call 0 6 (pos 4) (pos 1) 4
    ++ (call 0 6 (pos 1) (pos 4) 5 ++ (call 1 6 (pos 1) (pos 2) 3 ++ (call 0 2 (pos 2) unused 2 ++ stepped 1 1))))))))
    (1 ∷ 1 ∷ 1 ∷ 1 ∷ 1 ∷ 1 ∷ 8 ∷ 8 ∷ 1 ∷ 8 ∷ [])

-- The edge 1 to 2 is on trial before 1 to 3, which is removed and then unlinked after it.
-- The tag of 1 to 2 is kept, so it is still not there.
abbrev kept_on_trial : Example
kept_on_trial = answers 2
    (three_vertices ++ (call 1 4 (pos 1) (pos 3) 8 ++ (call 0 4 (pos 1) (pos 2) 4 ++ (call 1 5 (pos 1) (pos 3) 6 ++ (call 1 5 (pos 1) (pos 3) 7
    ++ call 1 6 (pos 1) (pos 2) 4)))))
    (1 ∷ 1 ∷ 1 ∷ 1 ∷ 1 ∷ 5 ∷ 8 ∷ [])

-- A worker stands at an edge that is removed and unlinked.
-- It still goes on from there, for no other link than p's was turned.
abbrev left_behind : Example
left_behind = answers 2
    (three_vertices ++ (call 0 4 (pos 1) (pos 2) 7 ++ (call 1 6 (pos 1) (pos 3) 4 ++ (call 0 5 (pos 1) (pos 2) 4 ++ (call 0 5 (pos 1) (pos 2) 5 ++ stepped 1 2)))))
    (1 ∷ 1 ∷ 1 ∷ 1 ∷ 1 ∷ 5 ∷ 8 ∷ [])

-- p is removed under a look that has just passed it, of AddV and of AddE.
-- The look starts again and unlinks what was removed before it settles.
abbrev vertex_behind : Example
vertex_behind = answers 2
    (call 0 1 (pos 5) unused 1 ++ (call 0 1 (pos 7) unused 2 ++ (call 1 1 (pos 6) unused 1 ++ (call 0 2 (pos 5) unused 1 ++ (stepped 1 3
    ++ call 0 3 (pos 5) unused 1)))))
    (1 ∷ 1 ∷ 1 ∷ 1 ∷ 2 ∷ [])

abbrev edge_behind : Example
edge_behind = answers 2
    (three_vertices ++ (call 0 4 (pos 1) (pos 2) 7 ++ (call 1 4 (pos 1) (pos 3) 5 ++ (call 0 5 (pos 1) (pos 2) 4 ++ (stepped 1 3
    ++ (call 0 6 (pos 1) (pos 3) 5 ++ stepped 1 3))))))
    (1 ∷ 1 ∷ 1 ∷ 1 ∷ 1 ∷ 8 ∷ 1 ∷ [])

-- The target goes while it is open: the trial looks at the marks before it goes on with it.
abbrev open_target_removed : Example
open_target_removed = answers 2 (on_trial ++ (stepped 0 1 ++ (call 1 2 (pos 7) unused 2 ++ stepped 0 1))) (1 ∷ 1 ∷ 1 ∷ 3 ∷ [])

-- 2 to 3 and 3 to 1 stand, and 1 to 2 is on trial.
-- 3 is removed while it waits in the queue, and then while it is open: it is dropped, or closed, in one step.
abbrev almost_loop : ℕ → Example
almost_loop n = answers 2
    (three_vertices ++ (call 0 4 (pos 2) (pos 3) 9 ++ (call 0 4 (pos 3) (pos 1) 8 ++ (call 0 4 (pos 1) (pos 2) n ++ (call 1 2 (pos 3) unused 3 ++ stepped 0 2)))))
    (1 ∷ 1 ∷ 1 ∷ 1 ∷ 1 ∷ 1 ∷ 1 ∷ [])

-- vertices 1 and 2, and the edge 1 to 2
abbrev one_edge : List Choice
one_edge = call 0 1 (pos 1) unused 1 ++ (call 0 1 (pos 2) unused 2 ++ call 0 4 (pos 1) (pos 2) 7)

-- ConE asks where the edge leads, and for the mark of u: 2 was removed and added again,
-- and the old edge still leads to the old one; then 1 goes after it was found.
abbrev old_target : Example
old_target = answers 1
    (one_edge ++ (call 0 2 (pos 2) unused 2 ++ (call 0 1 (pos 2) unused 3 ++ call 0 6 (pos 1) (pos 2) 4)))
    (1 ∷ 1 ∷ 1 ∷ 1 ∷ 1 ∷ 8 ∷ [])

abbrev source_removed : Example
source_removed = answers 2 (one_edge ++ (call 1 6 (pos 1) (pos 2) 3 ++ (call 0 2 (pos 1) unused 1 ++ stepped 1 1))) (1 ∷ 1 ∷ 1 ∷ 1 ∷ 8 ∷ [])

-- AddE asks for the mark of v at each look: 2 goes after it was found.
abbrev target_removed : Example
target_removed = answers 2 (three_vertices ++ (call 1 4 (pos 1) (pos 2) 3 ++ (call 0 2 (pos 2) unused 2 ++ stepped 1 1))) (1 ∷ 1 ∷ 1 ∷ 1 ∷ 3 ∷ [])

-- An edge is put in between p, an unmarked edge, and c: the look of 1 to 4 starts again, and 1 to 3 is not lost.
abbrev inserted_between : Example
inserted_between = answers 2
    (three_vertices ++ (call 0 1 (pos 4) unused 4 ++ (call 0 4 (pos 1) (pos 2) 7 ++ (call 1 4 (pos 1) (pos 4) 6 ++ (call 0 4 (pos 1) (pos 3) 9 ++ (stepped 1 7
    ++ call 0 6 (pos 1) (pos 3) 6))))))
    (1 ∷ 1 ∷ 1 ∷ 1 ∷ 1 ∷ 1 ∷ 1 ∷ 1 ∷ [])

-- An edge on trial to a removed target is left to its adder: 7 is added again, and the pair is on trial still.
abbrev trial_left_alone : Example
trial_left_alone = answers 2
    (on_trial ++ (call 1 2 (pos 7) unused 2 ++ (call 1 1 (pos 7) unused 3 ++ call 1 4 (pos 5) (pos 7) 4)))
    (1 ∷ 1 ∷ 1 ∷ 1 ∷ 7 ∷ [])

-- 1 to 2 is on trial, and still is when 1 to 3 is put in after it.
abbrev inserted_behind_trial : Example
inserted_behind_trial = answers 2
    (three_vertices ++ (call 0 4 (pos 1) (pos 2) 4 ++ (call 1 4 (pos 1) (pos 3) 9 ++ call 1 6 (pos 1) (pos 2) 4)))
    (1 ∷ 1 ∷ 1 ∷ 1 ∷ 8 ∷ [])

-- P8 as a script: the edge that was withdrawn is not counted.
abbrev withdrawn : Example
withdrawn = prints
    "2 3 1 14\n1 5\n1 7\n4 5 7\n2 7\n0 0 0 0 0 0 0 0 0 0 1 1 1 0\n"
    "4 1 0\n2 0 1 1\n5 0 1 1\n13 1 2 1\n14 0 4 3\n5\n"

-- 2 to 3 leads to a removed vertex: a trial of 1 to 2 passes it, and is done a step earlier than if it met 3.
abbrev dead_target_passed : Example
dead_target_passed = answers 1
    (three_vertices ++ (call 0 4 (pos 2) (pos 3) 9 ++ (call 0 2 (pos 3) unused 3 ++ call 0 4 (pos 1) (pos 2) 8)))
    (1 ∷ 1 ∷ 1 ∷ 1 ∷ 1 ∷ 1 ∷ [])

-- An edge on trial when the schedule ends is neither counted nor listed.
abbrev listed_on_trial : Example
listed_on_trial = prints
    "1 3 10\n1 5\n1 7\n4 5 7\n0 0 0 0 0 0 0 0 0 0\n"
    "2 2 0\n2 0 1 1\n5 0 1 1\n5\n7\n"

-- Line 1: at most 1,024 requests and 8,192 turns. The schedule: one line, of the stated length, which may be none.
abbrev line_rules : List Example
line_rules =
    prints "1 1024 8192\n" "refused 27 2\n"
    ∷ prints "1 1025 0\n" "refused 27 1\n"
    ∷ prints "1 0 8193\n" "refused 27 1\n"
    ∷ prints "1 0 1\n0 0\n" "refused 27 2\n"
    ∷ prints "1 0 2\n0\n0\n" "refused 27 2\n"
    ∷ prints "1 0 0\n\n" "0 0 0\n"
    ∷ []

-- A script as it is written, and read back: two workers, a request with one key and one with two, and three turns.
abbrev pub written_script : Script
written_script = record {
  counts = 1 ∷ 1 ∷ [];
  requests = asks 3 (negsuc 6) unused ∷ asks 4 (pos 0) (negsuc 0) ∷ [];
  schedule = 1 ∷ 0 ∷ 1 ∷ [];
}

abbrev pub table : List Example
table =
    dead_target ∷ around_zero ∷ bad_line ∷ other_replies ∷ swept ∷ met_counts ∷ crossing_removals ∷ starting_again ∷ crossed_trials
    ∷ removed_passed ∷ contained ∷ kept_on_trial ∷ left_behind ∷ vertex_behind ∷ edge_behind ∷ open_target_removed ∷ almost_loop 7 ∷ almost_loop 8
    ∷ old_target ∷ source_removed ∷ target_removed ∷ inserted_between ∷ trial_left_alone ∷ inserted_behind_trial ∷ withdrawn ∷ dead_target_passed
    ∷ listed_on_trial ∷ line_rules
