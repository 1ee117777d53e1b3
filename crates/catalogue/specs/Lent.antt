-- The calls on lent memory: document 01, "Replies and refusals", 20, and the lent memory after each call.
-- A catalogue is lent as two runs of numbers. The keys: 256 of vertices, then 2,048 of edges.
-- The words: the two counts handed out, 256 vertex links, 256 first-edge links, 2,048 edge targets, 2,048 edge links.
use Rattle.std.specs.Prelude.{ℕ, ◌+◌, Bool, false, ◌≡◌, List, ◌∷◌, ◌++◌, ℤ, pos, length, get_or, eqb, leb, Result, Ok, Err}
use Rattle.catalogue.specs.Tests.{pick, table_from}
use Rattle.catalogue.specs.Catalogue.{Catalogue, fresh}
use Rattle.catalogue.specs.Calls.{After, take_up, step}
use Rattle.catalogue.specs.Sweep.{AfterSweep, sweep_into}
use Rattle.catalogue.specs.Listing.{AfterListing, list_into, written}
use Rattle.catalogue.specs.Script.{Script, Read, bad, good, read_script}
use Rattle.catalogue.specs.Run.{run, run_text}
use Rattle.catalogue.specs.declared.workers.Request.{Request}
use Rattle.catalogue.specs.declared.workers.Table.{Table}
use Rattle.catalogue.specs.declared.answers.Refusal.{Refusal}
use Rattle.catalogue.specs.declared.answers.Refusal.TheVariants as refusal
use Rattle.catalogue.specs.declared.answers.Outcome.{Outcome}
use Rattle.catalogue.specs.declared.script.RunError.{RunError}
use Rattle.catalogue.specs.declared.script.RunError.TheVariants as run_error

-- Two runs of numbers that stand for a catalogue.
pub record Memory : Type 0 where
  pub keys : List ℤ
  pub words : List ℕ

abbrev pub keys_size : ℕ
keys_size = 2304

abbrev pub words_size : ℕ
words_size = 4610

abbrev pub output_size : ℕ
output_size = 65536

-- where each field stands
abbrev pub vertex_count : List ℕ → ℕ
vertex_count words = get_or words 0 0

abbrev pub edge_count : List ℕ → ℕ
edge_count words = get_or words 1 0

abbrev pub vkeys : List ℤ → ℕ → ℤ
vkeys keys n = get_or keys n (pos 0)

abbrev pub ekeys : List ℤ → ℕ → ℤ
ekeys keys n = get_or keys (256 + n) (pos 0)

abbrev pub vlinks : List ℕ → ℕ → ℕ
vlinks words n = get_or words (2 + n) 0

abbrev pub firsts : List ℕ → ℕ → ℕ
firsts words n = get_or words (258 + n) 0

abbrev pub targets : List ℕ → ℕ → ℕ
targets words n = get_or words (514 + n) 0

abbrev pub elinks : List ℕ → ℕ → ℕ
elinks words n = get_or words (2562 + n) 0

-- the catalogue that memory holds
abbrev pub view : Memory → Catalogue
view m = record {
  counts = record { vertices = vertex_count m.words; edges = edge_count m.words };
  vertices = record { key = vkeys m.keys; link = vlinks m.words; first = firsts m.words };
  edges = record { key = ekeys m.keys; target = targets m.words; link = elinks m.words };
}

-- two lent slices as one memory, and the catalogue in them
abbrev pub memory_of : List ℤ → List ℕ → Memory
memory_of keys words = record { keys = keys; words = words }

abbrev pub catalogue_in : List ℤ → List ℕ → Catalogue
catalogue_in keys words = view (memory_of keys words)

-- the memory that holds a catalogue
unfoldable pub lay : Catalogue → Memory
lay C = record {
  keys = table_from C.vertices.key 0 256 ++ table_from C.edges.key 0 2048;
  words =
      C.counts.vertices ∷ C.counts.edges
      ∷ (table_from C.vertices.link 0 256 ++ (table_from C.vertices.first 0 256 ++ (table_from C.edges.target 0 2048 ++ table_from C.edges.link 0 2048)));
}

-- 20: the stated sizes.
unfoldable pub sized : Memory → Bool
sized m = pick (eqb (length m.keys) keys_size) (eqb (length m.words) words_size) false

pub record Sized (keys : List ℤ) (words : List ℕ) : Type 0 where
  pub keyed : length keys ≡ keys_size
  pub worded : length words ≡ words_size

unfoldable pub output_fits : List ℕ → Bool
output_fits output = leb output_size (length output)

-- A fresh catalogue.
pub record LentMade : Type 0 where
  pub memory : Memory
  pub answer : Result (Unit {0}) Refusal

abbrev pub refuse_made : Memory → LentMade
refuse_made m = record { memory = m; answer = Err refusal.Room }

unfoldable pub lent_fresh : Memory → LentMade
lent_fresh m = pick (sized m) (record { memory = lay fresh; answer = Ok tt }) (refuse_made m)

abbrev pub outcome_of : After → Outcome
outcome_of a = record { table = a.table; answer = a.answer }

-- Taking up and a step: the memory and the outcome.
pub record LentCall : Type 0 where
  pub memory : Memory
  pub outcome : Outcome

abbrev pub after_call : After → LentCall
after_call a = record { memory = lay a.catalogue; outcome = outcome_of a }

abbrev pub refused : Table → Refusal → Outcome
refused t r = record { table = t; answer = Err r }

abbrev pub lent_call : Memory → Table → (Catalogue → After) → LentCall
lent_call m t call =
    pick (sized m) (after_call (call (view m)))
    (record { memory = m; outcome = refused t refusal.Room })

unfoldable pub lent_take_up : Memory → Table → ℕ → Request → LentCall
lent_take_up m t w q = lent_call m t (λ C. take_up C t w q)

unfoldable pub lent_step : Memory → Table → ℕ → LentCall
lent_step m t w = lent_call m t (λ C. step C t w)

-- A sweep of one memory into a second; either may be of a wrong size. The first one is unchanged.
abbrev pub after_sweep : AfterSweep → LentMade
after_sweep a = record { memory = lay a.second; answer = a.answer }

unfoldable pub lent_sweep : Memory → Memory → Table → LentMade
lent_sweep m n t =
    pick (sized m) (pick (sized n) (after_sweep (sweep_into (view m) (view n) t)) (refuse_made n)) (refuse_made n)

-- A listing: memory of a wrong size, or too little output.
unfoldable pub lent_listing : Memory → List ℕ → AfterListing
lent_listing m output =
    let refused : AfterListing = record { output = output; answer = Err refusal.Room } in
    pick (sized m) (pick (output_fits output) (list_into (view m) output) refused) refused

-- A script: 20, then 27 with its line; else the memory is made fresh and the script run on it.
pub record LentRun : Type 0 where
  pub memory : Memory
  pub output : List ℕ
  pub answer : Result ℕ RunError

abbrev pub after_run : Memory → List ℕ → Read Script → LentRun
after_run m output (bad n) = record { memory = m; output = output; answer = Err (run_error.BadScript n) }
after_run m output (good s) =
    record { memory = lay (run s).catalogue; output = written (run_text s) output; answer = Ok (length (run_text s)) }

unfoldable pub lent_run : List ℕ → Memory → List ℕ → LentRun
lent_run text m output =
    let refused : LentRun = record { memory = m; output = output; answer = Err (run_error.Refused refusal.Room) } in
    pick (sized m) (pick (output_fits output) (after_run m output (read_script text)) refused) refused
