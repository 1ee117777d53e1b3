-- Document 01, "Replies and refusals": for each refusal 20 to 27 two damaged calls or more, which give its number
-- and change nothing. Where two refusals would fit, the first in the order of the table is given.
use Rattle.std.specs.Prelude.{ℕ, ◌≡◌, List, [], ◌∷◌, ℤ, pos, replicate}
use Prim.Native.String.{String}
use Rattle.catalogue.specs.Numbers.{least, greatest, head, plain, link}
use Rattle.catalogue.specs.Catalogue.{Catalogue, fresh}
use Rattle.catalogue.specs.Writes.{with_vertex_link}
use Rattle.catalogue.specs.Workers.{asks, idle_table, put}
use Rattle.catalogue.specs.Answers.{told, made_number, told_listed, told_ran}
use Rattle.catalogue.specs.Calls.{After, take_up, step}
use Rattle.catalogue.specs.Sweep.{AfterSweep, sweep_into}
use Rattle.catalogue.specs.Listing.{AfterListing, list_into}
use Rattle.catalogue.specs.Lent.{Memory, LentCall, LentRun, lay, lent_take_up, lent_listing, lent_run}
use Rattle.catalogue.specs.Choosing.{start, after}
use Rattle.catalogue.specs.Examples.Rows.{bytes, call, ends, in_trial}
use Rattle.catalogue.specs.Examples.Checked.{on_trial}
use Rattle.catalogue.specs.declared.workers.Table.{Table}
use Rattle.catalogue.specs.declared.workers.Place.TheVariants.{Trial}

-- A call, its arguments, and the number that it must be refused with; a bad script also has its line.
pub data Damaged : Type 0 where
  taking_up : Catalogue → Table → ℕ → ℕ → ℤ → ℤ → ℕ → Damaged
  stepping : Catalogue → Table → ℕ → ℕ → Damaged
  sweeping : Catalogue → Catalogue → Table → ℕ → Damaged
  listing : Catalogue → List ℕ → ℕ → Damaged
  taking_up_lent : Memory → Table → ℕ → ℕ → ℤ → ℤ → ℕ → Damaged
  listing_lent : Memory → List ℕ → ℕ → Damaged
  running : String → Memory → List ℕ → ℕ → ℕ → Damaged

-- What each call was lent, as it is after the call, with the number returned: computed once, and compared as one.
unfoldable pub left : After → Catalogue × Table × ℕ
left a = (a.catalogue, a.table, (told a.answer).number)

unfoldable pub left_lent : LentCall → Memory × Table × ℕ
left_lent a = (a.memory, a.outcome.table, (told a.outcome.answer).number)

unfoldable pub left_sweep : AfterSweep → Catalogue × ℕ
left_sweep a = (a.second, made_number a.answer)

unfoldable pub left_listing : AfterListing → List ℕ × ℕ
left_listing a = (a.output, (told_listed a.answer).number)

unfoldable pub left_run : LentRun → Memory × List ℕ × ℕ × ℕ
left_run a = (a.memory, a.output, (told_ran a.answer).number, (told_ran a.answer).line)

abbrev pub Refused : Damaged → Type 0
Refused (taking_up C t w code k l n) = left (take_up C t w (asks code k l)) ≡ (C, t, n)
Refused (stepping C t w n) = left (step C t w) ≡ (C, t, n)
Refused (sweeping C D t n) = left_sweep (sweep_into C D t) ≡ (D, n)
Refused (listing C output n) = left_listing (list_into C output) ≡ (output, n)
Refused (taking_up_lent m t w code k l n) = left_lent (lent_take_up m t w (asks code k l)) ≡ (m, t, n)
Refused (listing_lent m output n) = left_listing (lent_listing m output) ≡ (output, n)
Refused (running script m output n l) = left_run (lent_run (bytes script) m output) ≡ (m, output, n, l)

abbrev pub AllRefused : List Damaged → Type 0
AllRefused [] = Unit {0}
AllRefused (d ∷ ds) = Refused d × AllRefused ds

-- memory and output of the stated sizes, and smaller ones
abbrev good_memory : Memory
good_memory = lay fresh

abbrev no_memory : Memory
no_memory = record { keys = []; words = [] }

abbrev good_output : List ℕ
good_output = replicate 65536 0

abbrev short_output : List ℕ
short_output = replicate 65535 0

abbrev small_output : List ℕ
small_output = 53 ∷ 10 ∷ []

-- two idle workers; then worker 0 taken up AddV 5
abbrev idle_two : Table
idle_two = idle_table 2

abbrev one_busy : Table
one_busy = (after (start 2) (call 0 1 (pos 5) (pos 0) 0)).table

-- the head leads out of the pool
abbrev torn_head : Catalogue
torn_head = with_vertex_link fresh head (link 256 plain)

-- a trial whose queue ends are out of order
abbrev torn_ends : Table
torn_ends = put idle_two 1 (in_trial (Trial (ends 5 7 2 3) 1) 2 1)

-- an edge on trial, whose adder is not in the table that the sweep is shown
abbrev left_on_trial : Catalogue
left_on_trial = (after (start 1) on_trial).catalogue

abbrev pub table : List Damaged
table =
    taking_up_lent no_memory idle_two 0 1 (pos 5) (pos 0) 20
    ∷ listing_lent good_memory small_output 20
    ∷ running "1 0 0\n\n" good_memory short_output 20 0
    ∷ running "1 0 0\n" no_memory good_output 20 0
    ∷ taking_up fresh idle_two 2 1 (pos 5) (pos 0) 21
    ∷ stepping fresh (idle_table 9) 0 21
    ∷ taking_up fresh one_busy 0 1 (pos 5) (pos 0) 22
    ∷ taking_up fresh one_busy 0 7 least (pos 0) 22
    ∷ sweeping fresh torn_head one_busy 22
    ∷ sweeping torn_head fresh one_busy 22
    ∷ stepping fresh idle_two 0 23
    ∷ stepping fresh one_busy 1 23
    ∷ taking_up fresh idle_two 0 0 (pos 5) (pos 0) 24
    ∷ taking_up fresh idle_two 0 7 (pos 5) (pos 0) 24
    ∷ taking_up fresh idle_two 0 7 least (pos 0) 24
    ∷ taking_up fresh idle_two 1 2 least (pos 0) 25
    ∷ taking_up fresh idle_two 0 4 (pos 5) greatest 25
    ∷ taking_up torn_head idle_two 0 1 greatest (pos 0) 25
    ∷ taking_up torn_head idle_two 0 3 (pos 5) (pos 0) 26
    ∷ stepping fresh torn_ends 1 26
    ∷ sweeping left_on_trial fresh idle_two 26
    ∷ listing torn_head small_output 26
    ∷ running "1 1 2\n1 05\n0 0\n" good_memory good_output 27 2
    ∷ running "1 0 0\n\n\n" good_memory good_output 27 3
    ∷ []
