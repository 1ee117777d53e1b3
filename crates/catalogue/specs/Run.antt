-- Document 01, "Sweep and listing", the last sentence on scripts, and the output:
-- running a script from the fresh catalogue.
use Rattle.std.specs.Prelude.{ℕ, suc, List, [], ◌∷◌, ◌++◌, length, get_or, set, take, drop, Result, Ok, Err}
use Rattle.catalogue.specs.Tests.{pick}
use Rattle.catalogue.specs.Catalogue.{Catalogue, fresh}
use Rattle.catalogue.specs.Workers.{worker_at, busy, idle_table, request_of}
use Rattle.catalogue.specs.Calls.{take_up, step}
use Rattle.catalogue.specs.Listing.{ReplyLine, result_text}
use Rattle.catalogue.specs.Script.{Script}
use Rattle.catalogue.specs.declared.workers.Table.{Table}
use Rattle.catalogue.specs.declared.workers.Request.{Request}
use Rattle.catalogue.specs.declared.answers.Refusal.{Refusal}
use Rattle.catalogue.specs.declared.answers.Answer.{Answer}
use Rattle.catalogue.specs.declared.answers.Answer.TheVariants.{Going, Reply}

-- A run so far: the catalogue, the workers, the requests that each has left, and the replies.
pub record Running : Type 0 where
  pub catalogue : Catalogue
  pub table : Table
  pub left : List (List Request)
  pub replies : List ReplyLine

-- each worker's requests, cut from all of them by the counts
unfoldable pub shares : List ℕ → List Request → List (List Request)
shares [] rs = []
shares (n ∷ ns) rs = take n rs ∷ shares ns (drop n rs)

-- a reply that a step gave, at the end of those before it
abbrev pub with_reply : List ReplyLine → ℕ → ℕ → ℕ → Result Answer Refusal → List ReplyLine
with_reply replies position worker code (Ok (Going met)) = replies
with_reply replies position worker code (Ok (Reply n)) = replies ++ (record { position = position; worker = worker; code = code; reply = n } ∷ [])
with_reply replies position worker code (Err r) = replies

-- a busy worker steps
abbrev pub steps_on : Running → ℕ → ℕ → Running
steps_on r position w =
    let after = step r.catalogue r.table w in
    record {
      catalogue = after.catalogue;
      table = after.table;
      left = r.left;
      replies = with_reply r.replies position w (request_of (worker_at r.table w).place).code after.answer;
    }

-- an idle worker takes up its next request, if it has one
abbrev pub takes_up : Running → ℕ → List Request → Running
takes_up r w [] = r
takes_up r w (q ∷ qs) =
    let after = take_up r.catalogue r.table w q in
    record { catalogue = after.catalogue; table = after.table; left = set r.left w qs; replies = r.replies }

abbrev pub turn : Running → ℕ → ℕ → Running
turn r position w = pick (busy r.table w) (steps_on r position w) (takes_up r w (get_or r.left w []))

-- The schedule from a position on.
unfoldable pub play : Running → ℕ → List ℕ → Running
play r position [] = r
play r position (w ∷ ws) = play (turn r position w) (suc position) ws

abbrev pub run_from : Catalogue → Script → Running
run_from C s =
    play (record { catalogue = C; table = idle_table (length s.counts); left = shares s.counts s.requests; replies = [] }) 1 s.schedule

-- The whole run, from a fresh catalogue and with all workers idle.
unfoldable pub run : Script → Running
run s = run_from fresh s

-- What it prints.
unfoldable pub run_text : Script → List ℕ
run_text s = result_text (run s).catalogue (run s).replies
