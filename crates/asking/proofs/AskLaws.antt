-- A request stepped once more comes to what it came to before; one that is answered, or has no steps left, comes to
-- what it is.
use Rattle.std.proofs.Common.{◌≡◌, ℕ, zero, suc, ◌+◌, ◌-◌, ◌<◌, ◌≤◌, true, false, eqb, List, ℤ, sym, refl, ap, ◌∙◌, eq-eqb, ne_eqb, arith}
use native.Mathlib.Numerals.{unary_clauses}
use Rattle.catalogue.specs.Answers.{told}
use Rattle.catalogue.specs.Lent.{Memory, memory_of, lent_take_up, lent_step}
use Rattle.catalogue.specs.Workers.{idle_table}
use Rattle.catalogue.specs.declared.answers.Outcome.{Outcome}
use Rattle.catalogue.specs.declared.workers.Request.{Request}
use Rattle.catalogue.specs.declared.workers.Table.{Table}
use Rattle.asking.specs.Asked.{Standing, Ended, next, ended, ask_on, asked, Performs}
use Rattle.asking.specs.declared.perform.Performed.{Performed}

-- a request that stands at these
abbrev pub At : List ℤ → List ℕ → Table → ℕ → Standing
At keys words t number = record { memory = memory_of keys words; table = t; number = number }

-- after taking up
pub ask_starts : (keys : List ℤ) (words : List ℕ) (q : Request) (t : Table) (r : Outcome) (number : ℕ)
    → t ≡ idle_table 1 → r ≡ (lent_take_up (memory_of keys words) t 0 q).outcome → number ≡ (told r.answer).number
    → ask_on 10000 (At keys words r.table number) ≡ asked (memory_of keys words) q
unfolding asked
ask_starts keys words q t r number i e n = rw (n, e, i) refl

one_more : (left : ℕ) (s : Standing) → 0 < left → eqb s.number 0 ≡ true → ask_on left s ≡ ask_on (left - 1) (next s)
unfolding ask_on
one_more zero s h e = absurd (omega arith)
one_more (suc left) s h e = rw (e, ask_on) (simp unary_clauses)

pub ask_again : (done : ℕ) (keys keys' : List ℤ) (words words' : List ℕ) (t : Table) (r : Outcome) (number number' : ℕ) (E : Ended)
    → ask_on (10000 - done) (At keys words t number) ≡ E → done < 10000 → number ≡ 0 → r ≡ (lent_step (memory_of keys words) t 0).outcome
    → keys' ≡ (lent_step (memory_of keys words) t 0).memory.keys → words' ≡ (lent_step (memory_of keys words) t 0).memory.words
    → number' ≡ (told r.answer).number → ask_on (10000 - (done + 1)) (At keys' words' r.table number') ≡ E
ask_again done keys keys' words words' t r number number' E e h z o ks ws n =
    let fewer : 10000 - (done + 1) ≡ 10000 - done - 1 = omega arith in
    rw (fewer, n, o, ks, ws) (sym (one_more (10000 - done) (At keys words t number) (omega arith) (eq-eqb _ _ z)) ∙ e)

answered : (left : ℕ) (s : Standing) → eqb s.number 0 ≡ false → ask_on left s ≡ ended left s
unfolding ask_on
answered zero s h = refl
answered (suc left) s h = rw (h, ask_on) refl

spent : (left : ℕ) (s : Standing) → left ≤ 0 → ask_on left s ≡ ended left s
unfolding ask_on
spent zero s h = refl
spent (suc left) s h = absurd (omega arith)

-- keys passed on mean what they meant
module _ (done : ℕ) (keys : List ℤ) (words : List ℕ) (t : Table) (number : ℕ) (m : Memory) {q q' : Request}
    (e : ask_on (10000 - done) (At keys words t number) ≡ asked m q') (p : q' ≡ q) where
  abbrev stands : Standing
  stands = At keys words t number

  performs : (steps : ℕ) → steps ≡ 10000 - (10000 - done) → ended (10000 - done) stands ≡ asked m q → Performs m q (record { number = number; steps = steps }) keys words
  performs steps same f =
      let told : ℕ → Performed = λ n. record { number = number; steps = n } in
      (ap told same ∙ ap (λ (x : Ended). x.performed) f, (ap (λ (x : Ended). x.memory.keys) f, ap (λ (x : Ended). x.memory.words) f))

  pub ask_answered : done < 10000 → (number ≡ 0 → ⊥) → Performs m q (record { number = number; steps = done }) keys words
  ask_answered h some = performs done (omega arith) (rw p at (sym (answered (10000 - done) stands (ne_eqb _ _ some)) ∙ e))

  pub ask_spent : 10000 ≤ done → Performs m q (record { number = number; steps = 10000 }) keys words
  ask_spent h = performs 10000 (omega arith) (rw p at (sym (spent (10000 - done) stands (omega arith)) ∙ e))
