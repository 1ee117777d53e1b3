-- The step bounds on small runs, computed: what each choice returns, 0 where a step goes on.
use Rattle.std.specs.Prelude.{ℕ, zero, suc, List, [], ◌∷◌, ◌++◌, map, ◌≡◌, refl, pos, replicate}
use Rattle.catalogue.specs.Choosing.{Choice, steps, Moment, telling, after, choose}
use Rattle.catalogue.specs.Examples.Rows.{call, ends, found}
use Rattle.catalogue.specs.Examples.Checked.{unused}
use Rattle.catalogue.specs.declared.workers.Prev.TheVariants.{First}
use Rattle.promises.specs.Moments.{at}
use Rattle.promises.specs.Bounds.{total, Inserts, taken_by, edges_taken}

abbrev tells : Moment → List Choice → List ℕ
tells m cs = map (λ t. t.number) (telling m cs)

-- The series 7, 8 and 9, each put before those that are there.
abbrev three : List Choice
three = call 0 1 (pos 9) unused 1 ++ (call 0 1 (pos 8) unused 1 ++ call 0 1 (pos 7) unused 1)

-- ConV of the last of them: taken up, two steps that are not replied to, and the reply.
con_v_steps : tells (at 1 three) (call 0 3 (pos 9) unused 3) ≡ 0 ∷ 0 ∷ 0 ∷ 1 ∷ []
unfolding found after
con_v_steps = refl

-- The edge 8 to 9, and ConE of it: to 8, to 9, the edge.
abbrev joined : List Choice
joined = three ++ call 0 4 (pos 8) (pos 9) 9

con_e_steps : tells (at 1 joined) (call 0 6 (pos 8) (pos 9) 6) ≡ 0 ∷ 0 ∷ 0 ∷ 0 ∷ 0 ∷ 0 ∷ 1 ∷ []
unfolding found after
con_e_steps = refl

-- The edge 7 to 8: the fourth step inserts it.
abbrev ready : List Choice
ready = joined ++ call 0 4 (pos 7) (pos 8) 3

inserts : Inserts 0 (at 1 ready)
unfolding found after
inserts = record { ends = ends 7 8 4 3; p = First; c = 0; e = 2; before = refl; tried = refl }

abbrev inserted : Moment
inserted = (choose (at 1 ready) (steps 0)).moment

-- Its trial alone takes 8 and 9, and passes the edge between them: six steps.
trial_steps : tells inserted (replicate 6 (steps 0)) ≡ 0 ∷ 0 ∷ 0 ∷ 0 ∷ 0 ∷ 1 ∷ []
unfolding found after
trial_steps = refl

trial_taken : taken_by (after inserted (replicate 5 (steps 0))) 0 ≡ 3 ∷ 2 ∷ []
unfolding found after
trial_taken = refl

trial_edges : edges_taken (after inserted (replicate 5 (steps 0))) 0 ≡ 1
unfolding found after total
trial_edges = refl

-- n series, the greatest key first
unfoldable down : ℕ → List Choice
down zero = []
down (suc n) = call 0 1 (pos (suc n)) unused 1 ++ down n

-- The bound of ConV is met: a full catalogue, and a key above all others.
con_v_full : tells (at 1 (down 254)) (call 0 3 (pos 255) unused 255) ≡ replicate 255 0 ++ (2 ∷ [])
unfolding found after down
con_v_full = refl
