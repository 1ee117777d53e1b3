-- A turn on lent memory is the turn of the definition: what the code has stands for the running before it, and then
-- for the one after it.
use Prim.Native.Nat.{ℕ, ◌≤◌, ◌<◌}
use mathlib.Core.Bool.{Bool, true, false}
use mathlib.Core.List.{List, []}
use mathlib.Core.Path.{◌≡◌, refl, ap, ap₂, ◌∙◌}
use lib.IntN.{ℤ}
use lib.ListN.{length, get_or}
use Rattle.catalogue.specs.Calls.{After, step}
use Rattle.catalogue.specs.Catalogue.{Catalogue}
use Rattle.catalogue.specs.Lent.{Memory, memory_of, LentCall, after_call, lent_step}
use Rattle.catalogue.specs.Run.{Running, steps_on, takes_up, turn}
use Rattle.catalogue.specs.Tests.{pick}
use Rattle.catalogue.specs.Workers.{busy, worker_at, request_of}
use Rattle.catalogue.specs.declared.workers.Table.{Table}
use Rattle.lent.proofs.Calls.{lent_step_laid}
use Rattle.lent.proofs.Ranges.{TableInRange}
use Rattle.memory.specs.Memories.{Hold}
use Rattle.run.specs.Stands.{Stands}
use Rattle.run.specs.Turns.{told, lines_told, taken_next, Turned, stepped_on, turned, Turns}
use Rattle.run.specs.declared.states.State.{State}
use Rattle.run.proofs.Taking.{laid, takes}
use Rattle.run.proofs.Telling.{tells}

module _ (text : List ℕ) (keys : List ℤ) (words l : List ℕ) (s : State) (r : Running) (st : Stands text keys words l s r) where
  abbrev C : Catalogue
  C = r.catalogue

  abbrev m : Memory
  m = memory_of keys words

  module _ (ranged : TableInRange r.table) (few : length r.left ≤ 8) (room : s.end ≤ length l) (position w : ℕ) (h : w < length r.left) where
    abbrev tells_call : LentCall → ℕ → Turned
    tells_call x code = record {
      memory = x.memory;
      lines = lines_told l s.end position w code x.outcome.answer;
      state = told s x.outcome.table position w code x.outcome.answer;
    }

    abbrev stays : Turned
    stays = record { memory = m; lines = l; state = taken_next text m s w }

    pub turn_stands : (s' : State) (keys' : List ℤ) (words' l' : List ℕ) → Turns text m l s position w s' keys' words' l' → Stands text keys' words' l' s' (turn r position w)
    turn_stands s' keys' words' l' t = by (busy r.table w) refl
      where
        steps : busy r.table w ≡ true → Stands text keys' words' l' s' (steps_on r position w)
        steps e =
            let after : After = step C r.table w in
            let on : busy s.table w ≡ true = ap (λ (t : Table). busy t w) st.manned ∙ e in
            let call : lent_step m s.table w ≡ after_call after =
            ap₂ (λ (m : Memory) (t : Table). lent_step m t w) (laid text keys words l s r st) st.manned ∙ lent_step_laid C r.table ranged w in
            let code : ℕ = (request_of (worker_at r.table w).place).code in
            let same : turned text m l s position w ≡ tells_call (after_call after) code =
            ap (λ (b : Bool). pick b (stepped_on m l s position w) stays) on ∙ ap₂ tells_call call (ap (λ (t : Table). (request_of (worker_at t w).place).code) st.manned) in
            let g : Hold keys' words' after.catalogue =
            (t.1.0 ∙ ap (λ (x : Turned). x.memory.keys) same, t.1.1.0 ∙ ap (λ (x : Turned). x.memory.words) same) in
            rw (t.0 ∙ ap (λ (x : Turned). x.state) same, t.1.1.1 ∙ ap (λ (x : Turned). x.lines) same)
            (tells text keys words l s r st keys' words' after.catalogue after.table g room position w code after.answer)

        takes_next : busy r.table w ≡ false → Stands text keys' words' l' s' (takes_up r w (get_or r.left w []))
        takes_next e =
            let off : busy s.table w ≡ false = ap (λ (t : Table). busy t w) st.manned ∙ e in
            let same : turned text m l s position w ≡ stays = ap (λ (b : Bool). pick b (stepped_on m l s position w) stays) off in
            rw (
              t.0 ∙ ap (λ (x : Turned). x.state) same,
              t.1.0 ∙ ap (λ (x : Turned). x.memory.keys) same,
              t.1.1.0 ∙ ap (λ (x : Turned). x.memory.words) same,
              t.1.1.1 ∙ ap (λ (x : Turned). x.lines) same,
            )
            (takes text keys words l s r st w h few ranged e)

        by : (b : Bool) → busy r.table w ≡ b → Stands text keys' words' l' s' (pick b (steps_on r position w) (takes_up r w (get_or r.left w [])))
        by true e = steps e
        by false e = takes_next e
