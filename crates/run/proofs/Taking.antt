-- An idle worker takes up the request at its cursor, and the cursor goes on after it.
use Prim.Native.Nat.{ℕ, zero, suc, ◌-◌, ◌≤◌, ◌<◌}
use mathlib.Core.Bool.{false}
use mathlib.Core.List.{List, [], ◌∷◌}
use mathlib.Core.Logic.{inl, inr}
use mathlib.Core.Path.{◌≡◌, refl, sym, ap, ap₂, subst, ◌∙◌}
use native.Mathlib.Omega.{arith}
use lib.IntN.{ℤ}
use lib.ListN.{length, get_or, set, length-set}
use lib.Seq.{get_or-set_same, get_or-set_other}
use Rattle.catalogue.specs.Calls.{take_up}
use Rattle.catalogue.specs.Catalogue.{Catalogue}
use Rattle.catalogue.specs.Lent.{Memory, memory_of, lay, LentCall, after_call, lent_take_up}
use Rattle.catalogue.specs.Run.{Running, takes_up}
use Rattle.catalogue.specs.Workers.{busy}
use Rattle.catalogue.specs.declared.workers.Request.{Request}
use Rattle.catalogue.specs.declared.workers.Table.{Table}
use Rattle.lent.proofs.Calls.{lent_take_up_laid}
use Rattle.lent.proofs.Ranges.{TableInRange}
use Rattle.memory.specs.Memories.{Hold}
use Rattle.row.proofs.Base.{same?}
use Rattle.script.specs.Checks.{requests_at, share_of}
use Rattle.digits.specs.Digits.{at_some}
use Rattle.script.specs.Lines.{request_at}
use Rattle.script.specs.Shares.{share}
use Rattle.script.specs.declared.shares.Share.{Share}
use Rattle.std.specs.Prelude.{Option, None, Some}
use Rattle.digits.specs.declared.numbers.Parsed.{Parsed}
use Rattle.script.proofs.Cursors.{requests_none, requests_one}
use Rattle.run.specs.Stands.{Stands}
use Rattle.run.specs.Turns.{taken, taken_next}
use Rattle.run.specs.declared.states.State.{State}
use Rattle.run.proofs.Moves.{take_up_starts}
use Rattle.run.proofs.TurnLaws.{none_left, bad_line, taken_line}

module _ (text : List ℕ) (keys : List ℤ) (words l : List ℕ) (s : State) (r : Running) (st : Stands text keys words l s r) where
  abbrev C : Catalogue
  C = r.catalogue

  abbrev m : Memory
  m = memory_of keys words

  -- the memory is that of the catalogue
  pub laid : m ≡ lay C
  laid = ap₂ memory_of st.held.0 st.held.1

  module _ (w : ℕ) (h : w < length r.left) (few : length r.left ≤ 8) (ranged : TableInRange r.table) (off : busy r.table w ≡ false) where
    abbrev cursor : ℕ
    cursor = (share_of s.left w).start

    abbrev after : ℕ → Share
    after next = share next ((share_of s.left w).count - 1)

    same_request : (n next : ℕ) → (share_of s.left w).count ≡ suc n → (v : ℕ) → v < length (set r.left w (requests_at text n next))
        → get_or (set r.left w (requests_at text n next)) v []
        ≡ requests_at text (share_of (set s.left w (after next)) v).count (share_of (set s.left w (after next)) v).start
    same_request n next c v k =
        elim (same? v w) [
          | inl e ↦
              let one : (share_of s.left w).count - 1 ≡ n = omega arith in
              let a : share_of (set s.left w (after next)) w ≡ share next n = get_or-set_same s.left w _ (share 0 0) (omega (arith, st.left_long)) ∙ ap (share next) one in
              rw (e, get_or-set_same r.left w (requests_at text n next) [] h, a) refl
          | inr o ↦
              let a : share_of (set s.left w (after next)) v ≡ share_of s.left v = get_or-set_other s.left w v _ (share 0 0) o in
              rw (get_or-set_other r.left w v (requests_at text n next) [] o, a) (st.left v (omega (arith, length-set r.left w (requests_at text n next))))
        ]

    takes_one : (n : ℕ) (q : Request) (next : ℕ) → (share_of s.left w).count ≡ suc n → Stands text keys words l (taken m s w q next) (takes_up r w (q ∷ requests_at text n next))
    takes_one n q next c =
        let call : lent_take_up m s.table w q ≡ after_call (take_up C r.table w q) =
        ap₂ (λ (m : Memory) (t : Table). lent_take_up m t w q) laid st.manned ∙ lent_take_up_laid C r.table ranged w q in
        record {
          held = subst (Hold keys words) (sym (take_up_starts C r.table w off q).kept) st.held;
          manned = ap (λ (x : LentCall). x.outcome.table) call;
          left = same_request n next c;
          counted = st.counted;
          ended = st.ended;
          lined = st.lined;
          left_long = length-set s.left w _ ∙ st.left_long;
        }

    -- a request and so many others after it
    abbrev queue : ℕ → Option (Parsed Request) → List Request
    queue n x = at_some x [] (λ p. p.value ∷ requests_at text n p.next)

    pub takes : Stands text keys words l (taken_next text m s w) (takes_up r w (get_or r.left w []))
    takes = by (share_of s.left w).count refl (request_at text cursor) refl
      where
        left_one : (n : ℕ) → (share_of s.left w).count ≡ suc n → get_or r.left w [] ≡ queue n (request_at text cursor)
        left_one n e = st.left w h ∙ ap (λ n. requests_at text n cursor) e ∙ requests_one text n cursor

        stays : taken_next text m s w ≡ s → get_or r.left w [] ≡ [] → Stands text keys words l (taken_next text m s w) (takes_up r w (get_or r.left w []))
        stays a b = rw (a, b) st

        by : (n : ℕ) → (share_of s.left w).count ≡ n → (x : Option (Parsed Request)) → request_at text cursor ≡ x
            → Stands text keys words l (taken_next text m s w) (takes_up r w (get_or r.left w []))
        by zero e x f = stays (sym (none_left text m s w e)) (st.left w h ∙ ap (λ n. requests_at text n cursor) e ∙ requests_none text cursor)
        by (suc n) e None f = stays (sym (bad_line text m s w (omega arith) None (sym f) refl)) (left_one n e ∙ ap (queue n) f)
        by (suc n) e (Some p) f =
            let more : get_or r.left w [] ≡ p.value ∷ requests_at text n p.next = left_one n e ∙ ap (queue n) f in
            let up : taken m s w p.value p.next ≡ taken_next text m s w =
            taken_line text m s w (omega arith) (Some p) (sym f) p refl _ refl in
            rw (sym up, more) (takes_one n p.value p.next e)
