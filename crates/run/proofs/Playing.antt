-- The loop of a run: what is left of the schedule, played from what the code stands for, is the whole run.
use Prim.Native.Nat.{ℕ, suc, ◌+◌, ◌-◌, ◌≤◌, ◌<◌}
use mathlib.Core.Bool.{true}
use mathlib.Core.List.{List, [], ◌∷◌}
use mathlib.Core.Path.{◌≡◌, refl, sym, ap, subst, ◌∙◌}
use native.Mathlib.Omega.{arith}
use native.Mathlib.Numerals.{add-one}
use borrow.Author.Tests.{le-leb, ltb-true}
use lib.Dec.{ltb}
use lib.IntN.{ℤ}
use lib.ListN.{length, take}
use lib.Seq.{length-take-le}
use Rattle.catalogue.specs.Calls.{worker_fits, count_fits}
use Rattle.catalogue.specs.Catalogue.{fresh}
use Rattle.catalogue.specs.Lent.{Sized, memory_of}
use Rattle.catalogue.specs.Run.{Running, shares, turn, play, run}
use Rattle.catalogue.specs.Tests.{every}
use Rattle.catalogue.specs.Text.{lines}
use Rattle.catalogue.specs.Workers.{idle_table}
use Rattle.laws.proofs.Picks.{both_true}
use Rattle.memory.specs.Memories.{Hold}
use Rattle.memory.proofs.Laid.{length_keys, length_words}
use Rattle.std.proofs.lemmas.List.{length-map}
use Rattle.script.specs.Checks.{IsScript, script_in, turns_from}
use Rattle.script.specs.Turns.{turn_at}
use Rattle.script.specs.declared.shares.Share.{Share}
use Rattle.script.specs.declared.checks.Checked.{Checked}
use Rattle.script.specs.declared.turns.Turn.{Turn}
use Rattle.script.proofs.Cursors.{worker_share}
use Rattle.run.specs.Stands.{Stands, begins}
use Rattle.run.specs.Turns.{lines_size, Ready, Turns}
use Rattle.run.specs.declared.states.State.{State}
use Rattle.run.proofs.Bounds.{Bounded, start_bounded, turn_bounded}
use Rattle.run.proofs.Standing.{turn_stands}

-- as many turns are done as the position says
pub record Playing (text : List ℕ) (c : Checked) (keys : List ℤ) (words l : List ℕ) (s : State) (place position : ℕ) : Type 0 where
  pub running : Running
  pub stands : Stands text keys words l s running
  pub bounded : Bounded c.workers running
  pub rest : play running (suc position) (turns_from text (c.turns - position) place) ≡ run (script_in text c)
  pub manned : every (λ w. ltb w c.workers) (turns_from text (c.turns - position) place) ≡ true
  pub within : position ≤ c.turns
  pub long : length l ≡ lines_size

-- memory that holds a catalogue is of the stated sizes
pub held_sized : (keys : List ℤ) (words : List ℕ) (r : Running) → Hold keys words r.catalogue → Sized keys words
held_sized keys words r h = record { keyed = ap length h.0 ∙ length_keys r.catalogue; worded = ap length h.1 ∙ length_words r.catalogue }

-- so that its length is unchanged
module _ (text : List ℕ) (c : Checked) (k : IsScript text c) where
  -- ---- the start

  module _ (long_left : length c.shares ≡ 8) where
    all : length (script_in text c).counts ≡ c.workers
    all = length-map (take c.workers c.shares) (λ (s : Share). s.count) ∙ length-take-le c.workers c.shares (omega (arith, k.few))

    abbrev start : Running
    start = record {
      catalogue = fresh;
      table = idle_table (length (script_in text c).counts);
      left = shares (script_in text c).counts (script_in text c).requests;
      replies = [];
    }

    pub starts : (keys : List ℤ) (words l : List ℕ) (s : State) → Hold keys words fresh → length l ≡ lines_size → s ≡ begins c.workers c.shares → Playing text c keys words l s c.schedule 0
    unfolding run lines
    starts keys words l s h long e =
        let b : Bounded c.workers start = subst (λ (n : ℕ). Bounded n start) all (start_bounded (script_in text c) k.most) in
        let whole : c.turns - 0 ≡ c.turns = omega arith in
        record {
          running = start;
          stands = rw e (record {
            held = h;
            manned = ap idle_table (sym all);
            left = λ w q. worker_share text c k long_left w (omega (arith, b.shared));
            counted = refl;
            ended = refl;
            lined = refl;
            left_long = long_left;
          });
          bounded = b;
          rest = ap (λ n. play start 1 (turns_from text n c.schedule)) whole;
          manned = ap (λ n. every (λ w. ltb w c.workers) (turns_from text n c.schedule)) whole ∙ k.manned;
          within = omega arith;
          long = long;
        }

  -- ---- one turn more

  module _ (keys : List ℤ) (words l : List ℕ) (s : State) (place position : ℕ) (p : Playing text c keys words l s place position) where
    -- the lines of all replies leave room for one more
    few_replies : s.replies ≤ 1024
    few_replies = omega (arith, p.stands.counted, p.bounded.owing)

    pub few_bytes : s.end ≤ 11264
    few_bytes = omega (arith, p.stands.ended, p.bounded.short, p.bounded.owing)

    -- after the last one
    pub ends : c.turns ≤ position → Stands text keys words l s (run (script_in text c))
    unfolding play turns_from
    ends h =
        let none : c.turns - position ≡ 0 = omega arith in
        let same : p.running ≡ run (script_in text c) = sym (ap (λ n. play p.running (suc position) (turns_from text n place)) none) ∙ p.rest in
        subst (Stands text keys words l s) same p.stands

    module _ (more : position < c.turns) (t : Turn) (read : t ≡ turn_at text place) where
      abbrev others : List ℕ
      others = turns_from text (c.turns - suc position) t.next

      first : turns_from text (c.turns - position) place ≡ t.worker ∷ others
      unfolding turns_from
      first =
          let one : c.turns - position ≡ suc (c.turns - suc position) = omega arith in
          ap (λ n. turns_from text n place) one ∙ ap (λ (t : Turn). t.worker ∷ turns_from text (c.turns - suc position) t.next) (sym read)

      both : (ltb t.worker c.workers ≡ true) × (every (λ w. ltb w c.workers) others ≡ true)
      unfolding every
      both = both_true (ltb t.worker c.workers) _ (ap (every (λ w. ltb w c.workers)) (sym first) ∙ p.manned)

      known : t.worker < c.workers
      known = ltb-true t.worker c.workers both.0

      pub ready : Ready keys words l s t.worker
      unfolding worker_fits count_fits
      ready =
          let count : s.table.count ≡ c.workers = ap (λ t. t.count) p.stands.manned ∙ p.bounded.counted in
          record {
            sized = held_sized keys words p.running p.stands.held;
            known = rw (count, le-leb 1 c.workers k.one, le-leb c.workers 8 k.few, both.0) refl;
            room = omega (arith, few_bytes, p.long);
            few = few_replies;
          }

      pub goes_on : (next : ℕ) → next ≡ position + 1 → (s' : State) (keys' : List ℤ) (words' l' : List ℕ) → Turns text (memory_of keys words) l s next t.worker s' keys' words' l'
          → length l' ≡ length l → Playing text c keys' words' l' s' t.next next
      unfolding play
      goes_on next e s' keys' words' l' turned kept =
          let q : next ≡ suc position = e ∙ add-one position in
          let left : t.worker < length p.running.left = omega (arith, known, p.bounded.shared) in
          record {
            running = turn p.running next t.worker;
            stands = turn_stands text keys words l s p.running p.stands p.bounded.ranged (omega (arith, p.bounded.shared, k.few)) (omega (arith, few_bytes, p.long)) next t.worker left
                s' keys' words' l' turned;
            bounded = turn_bounded c.workers k.few p.running p.bounded next t.worker (omega (arith, k.timed)) known;
            rest = rw q (ap (play p.running (suc position)) (sym first) ∙ p.rest);
            manned = rw q both.1;
            within = omega arith;
            long = kept ∙ p.long;
          }
