-- Every promise is kept: each has its proof, in the file named.
use Rattle.promises.specs.Promises.{Promises}
use Rattle.promises.proofs.Runs.Course.{no_loop, never_torn, sound_at_rest}
use Rattle.promises.proofs.Runs.Accepted.{scripts_played}
use Rattle.promises.proofs.Rows.Row.{one_row, live_kept}
use Rattle.promises.proofs.Rows.Begins.{begins_empty}
use Rattle.promises.proofs.Rows.Outcome.{one_at_most, one_outcome}
use Rattle.promises.proofs.Outside.Room.{no_room}
use Rattle.promises.proofs.Outside.Rivals.{on_trial}
use Rattle.promises.proofs.Outside.Tried.{edges_tried}
use Rattle.promises.proofs.Outside.Loops.{cycle}
use Rattle.promises.proofs.Outside.Undisturbed.{cycle_alone}
use Rattle.promises.proofs.Bounds.Calls.{con_v_bound, con_e_bound}
use Rattle.promises.proofs.Bounds.Inserting.{trial_bound}
use Rattle.promises.proofs.Bounds.Alone.{trial_alone}

pub promises : Promises
promises = record {
  no_loop = no_loop;
  never_torn = never_torn;
  sound_at_rest = sound_at_rest;
  scripts_played = scripts_played;
  one_row = one_row;
  begins_empty = begins_empty;
  live_kept = live_kept;
  one_at_most = one_at_most;
  one_outcome = one_outcome;
  no_room = no_room;
  on_trial = on_trial;
  edges_tried = edges_tried;
  cycle = cycle;
  cycle_alone = cycle_alone;
  con_v_bound = con_v_bound;
  con_e_bound = con_e_bound;
  trial_bound = trial_bound;
  trial_alone = trial_alone;
}
