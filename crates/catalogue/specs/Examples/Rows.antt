-- The rows of the tables of examples: what is done, and what it must give.
use Rattle.std.specs.Prelude.{ℕ, zero, suc, List, [], ◌∷◌, map, ℤ, pos, replicate, eqb}
use Prim.Native.Char.{code}
use Prim.Native.String.{String, [] as []ˢ, ◌∷◌ as ◌∷ˢ◌}
use Rattle.catalogue.specs.Tests.{pick, keep, eq_z, upd, every, member}
use Rattle.catalogue.specs.Answers.{Told}
use Rattle.catalogue.specs.Choosing.{Choice, takes, steps, start, telling}
use Rattle.catalogue.specs.Calls.{count_fits, worker_fits, admit, take_up, step}
use Rattle.catalogue.specs.Catalogue.{vertex_key_in, vertex_link_in, first_link_in, edge_key_in, edge_link_in, edge_target_in}
use Rattle.catalogue.specs.Listing.{result_text}
use Rattle.catalogue.specs.Live.{walk, gather}
use Rattle.catalogue.specs.Numbers.{reserved, room}
use Rattle.catalogue.specs.Run.{shares, play, run, run_text}
use Rattle.catalogue.specs.Script.{next_line, split, value, all_of, sum, unsnoc, read_requests, read_lines, read_script}
use Rattle.catalogue.specs.Soundness.{sound}
use Rattle.catalogue.specs.Steps.Both.{see_both}
use Rattle.catalogue.specs.Steps.Contains.{settle_contains_edge, step_contains_edge}
use Rattle.catalogue.specs.Steps.Decide.{decide_at}
use Rattle.catalogue.specs.Steps.Edges.{see_key, see_edge, see_behind, look_at_edge, settle_add_edge, settle_remove_edge, settle_edge, restart, step_edge}
use Rattle.catalogue.specs.Steps.Finding.{look_for, step_contains, not_found, found_u, found_v, step_find_u, step_find_v}
use Rattle.catalogue.specs.Steps.Places.{key_refused, vertex_place, find_u_place, find_v_place, edge_place, edges_place, first_place}
use Rattle.catalogue.specs.Steps.Trial.{ends_fit, end_trial, cross, pass_edge, step_open, take_front, step_shut, see_trial, trial_shut, trial_open}
use Rattle.catalogue.specs.Steps.Vertices.{see_vertex, look_at_vertex, settle_add_vertex, settle_remove_vertex, settle_vertex, start_again, step_vertex}
use Rattle.catalogue.specs.Sweep.{position, first_of, next_swept, next_swept_edge, any_busy, sweep_into, held}
use Rattle.catalogue.specs.Text.{digits, number, spaced, lines}
use Rattle.catalogue.specs.Workers.{asks, has, with_met, count, met_count}
use Rattle.catalogue.specs.Writes.{commit}
use Rattle.catalogue.specs.Drill.{drill}
use Rattle.catalogue.specs.declared.workers.Ends.{Ends}
use Rattle.catalogue.specs.declared.workers.Place.{Place}
use Rattle.catalogue.specs.declared.workers.Worker.{Worker}

-- the bytes of a text of plain characters
unfoldable pub bytes : String → List ℕ
bytes []ˢ = []
bytes (c ∷ˢ s) = code c ∷ bytes s

-- A script with all that the drill prints for it; choices of a host with so many workers,
-- and the replies and refusals returned; or such choices, and how many series the trial has met at each.
pub data Example : Type 0 where
  prints : String → String → Example
  answers : ℕ → List Choice → List ℕ → Example
  meets : ℕ → List Choice → List ℕ → Example

-- a step that goes on returns 0, and is passed over
unfoldable pub told_numbers : List Told → List ℕ
told_numbers [] = []
told_numbers (t ∷ ts) = let rest = told_numbers ts in pick (eqb t.number 0) rest (t.number ∷ rest)

-- a worker stepped so many times; a request taken up and stepped so many times
unfoldable pub stepped : ℕ → ℕ → List Choice
stepped w zero = []
stepped w (suc n) = steps w ∷ stepped w n

abbrev pub call : ℕ → ℕ → ℤ → ℤ → ℕ → List Choice
call w code k l n = takes w (asks code k l) ∷ stepped w n

-- the ends of an edge call, by any keys and by small ones; a record in a trial, with nothing met and a queue of zeros
abbrev pub between : ℤ → ℤ → ℕ → ℕ → Ends
between k l u v = record { pair = record { k = k; l = l }; u = u; v = v }

abbrev pub ends : ℕ → ℕ → ℕ → ℕ → Ends
ends k l = between (pos k) (pos l)

abbrev pub in_trial : Place → ℕ → ℕ → Worker
in_trial place front back = record { place = place; reach = record { met = replicate 4 0; queue = replicate 256 0; front = front; back = back } }

-- workers 0 and 1 stepped turn about
unfoldable pub turn_about : ℕ → List Choice
turn_about zero = []
turn_about (suc n) = steps 0 ∷ steps 1 ∷ turn_about n

unfoldable pub found : Example → List ℕ
unfolding count_fits worker_fits admit take_up step vertex_key_in vertex_link_in first_link_in edge_key_in edge_link_in edge_target_in drill result_text walk gather reserved room shares play run run_text telling next_line split value all_of sum unsnoc read_requests read_lines read_script sound see_both settle_contains_edge step_contains_edge decide_at see_key see_edge see_behind look_at_edge settle_add_edge settle_remove_edge settle_edge restart step_edge look_for step_contains not_found found_u found_v step_find_u step_find_v key_refused vertex_place find_u_place find_v_place edge_place edges_place first_place ends_fit end_trial cross pass_edge step_open take_front step_shut see_trial trial_shut trial_open see_vertex look_at_vertex settle_add_vertex settle_remove_vertex settle_vertex start_again step_vertex position first_of next_swept next_swept_edge held any_busy sweep_into eq_z upd keep every member digits number spaced lines has with_met count met_count commit bytes told_numbers stepped turn_about
found (prints script result) = drill (bytes script)
found (answers workers choices told) = told_numbers (telling (start workers) choices)
found (meets workers choices told) = map (λ t. t.met) (telling (start workers) choices)

unfoldable pub expected : Example → List ℕ
expected (prints script result) = bytes result
expected (answers workers choices told) = told
expected (meets workers choices told) = told
