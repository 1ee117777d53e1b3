-- Playing a script is making choices: each turn of the schedule is one,
-- or none where an idle worker has no request left.
use Prim.Native.Nat.{ℕ, zero, suc}
use mathlib.Core.Bool.{Bool, true, false}
use mathlib.Core.List.{List, [], ◌∷◌, ◌++◌, map, map-append, append_assoc, append-nil}
use mathlib.Core.Logic.{inl, inr}
use mathlib.Core.Path.{◌≡◌, refl, sym, ap, ap₂, ◌∙◌}
use lib.ListN.{length, get_or, set, take, drop}
use lib.Seq.{get_or-set_same, get_or-set_other, set_out}
use Rattle.std.proofs.Common.{Result, Ok, Err}
use Rattle.catalogue.specs.Tests.{pick}
use Rattle.catalogue.specs.Calls.{step}
use Rattle.catalogue.specs.Listing.{ReplyLine}
use Rattle.catalogue.specs.Run.{Running, shares, with_reply, turn, takes_up, steps_on, play, run}
use Rattle.catalogue.specs.Choosing.{Choice, takes, steps, Moment, start, choose, after}
use Rattle.catalogue.specs.Script.{Script}
use Rattle.catalogue.specs.Workers.{busy}
use Rattle.catalogue.specs.declared.answers.Refusal.{Refusal}
use Rattle.catalogue.specs.declared.answers.Answer.{Answer}
use Rattle.catalogue.specs.declared.answers.Answer.TheVariants as answer
use Rattle.catalogue.specs.declared.workers.Request.{Request}
use Rattle.row.proofs.Base.{same?, lt_or}
use Rattle.row.proofs.Assemble.{all_append}
use Rattle.promises.specs.Moments.{All, none, each, Keyed, at, Fitting}
use Rattle.promises.specs.Histories.{reply_to, reply_by, replies_of}

-- ---- the choices of a schedule

abbrev moment_of : Running → Moment
moment_of r = record { catalogue = r.catalogue; table = r.table }

abbrev taking : ℕ → List Request → List Choice
taking w [] = []
taking w (q ∷ qs) = takes w q ∷ []

abbrev turned : Running → ℕ → List Choice
turned r w = pick (busy r.table w) (steps w ∷ []) (taking w (get_or r.left w []))

unfoldable choices : Running → ℕ → List ℕ → List Choice
choices r position [] = []
choices r position (w ∷ ws) = turned r w ++ choices (turn r position w) (suc position) ws

after_both : (m : Moment) (xs ys : List Choice) → after m (xs ++ ys) ≡ after (after m xs) ys
unfolding after
after_both m [] ys = refl
after_both m (x ∷ xs) ys = after_both (choose m x).moment xs ys

-- one turn
turn_is : (r : Running) (position w : ℕ) → moment_of (turn r position w) ≡ after (moment_of r) (turned r w)
unfolding after
turn_is r position w = by (busy r.table w) (get_or r.left w [])
  where
    by : (b : Bool) (qs : List Request) → moment_of (pick b (steps_on r position w) (takes_up r w qs)) ≡ after (moment_of r) (pick b (steps w ∷ []) (taking w qs))
    by true qs = refl
    by false [] = refl
    by false (q ∷ qs) = refl

play_is : (r : Running) (position : ℕ) (ws : List ℕ) → moment_of (play r position ws) ≡ after (moment_of r) (choices r position ws)
unfolding play choices after
play_is r position [] = refl
play_is r position (w ∷ ws) =
    play_is (turn r position w) (suc position) ws
    ∙ ap (λ m. after m (choices (turn r position w) (suc position) ws)) (turn_is r position w)
    ∙ sym (after_both (moment_of r) (turned r w) (choices (turn r position w) (suc position) ws))

-- ---- their replies

abbrev told : ReplyLine → ℕ × ℕ
told r = (r.worker, r.reply)

replies_both : (m : Moment) (xs ys : List Choice) → replies_of m (xs ++ ys) ≡ replies_of m xs ++ replies_of (after m xs) ys
unfolding replies_of after
replies_both m [] ys = refl
replies_both m (x ∷ xs) ys =
    ap (λ l. reply_by m x ++ l) (replies_both (choose m x).moment xs ys)
    ∙ sym (append_assoc (reply_by m x) (replies_of (choose m x).moment xs) (replies_of (after (choose m x).moment xs) ys))

-- a reply comes after those before it
replied_is : (l : List ReplyLine) (position w code : ℕ) (a : Result Answer Refusal) → map told (with_reply l position w code a) ≡ map told l ++ (reply_to w a ++ [])
replied_is l position w code (Ok (answer.Going met)) = sym (append-nil (map told l))
replied_is l position w code (Ok (answer.Reply n)) = map-append told l _
replied_is l position w code (Err r) = sym (append-nil (map told l))

turn_replies : (r : Running) (position w : ℕ) → map told (turn r position w).replies ≡ map told r.replies ++ replies_of (moment_of r) (turned r w)
unfolding replies_of
turn_replies r position w = by (busy r.table w) (get_or r.left w [])
  where
    by : (b : Bool) (qs : List Request) → map told (pick b (steps_on r position w) (takes_up r w qs)).replies
        ≡ map told r.replies ++ replies_of (moment_of r) (pick b (steps w ∷ []) (taking w qs))
    by true qs = replied_is r.replies position w _ (step r.catalogue r.table w).answer
    by false [] = sym (append-nil (map told r.replies))
    by false (q ∷ qs) = sym (append-nil (map told r.replies))

play_replies : (r : Running) (position : ℕ) (ws : List ℕ) → map told (play r position ws).replies ≡ map told r.replies ++ replies_of (moment_of r) (choices r position ws)
unfolding play choices replies_of
play_replies r position [] = sym (append-nil (map told r.replies))
play_replies r position (w ∷ ws) =
    let now : List (ℕ × ℕ) = replies_of (moment_of r) (turned r w) in
    let then : List Choice = choices (turn r position w) (suc position) ws in
    play_replies (turn r position w) (suc position) ws
    ∙ ap₂ (λ (l : List (ℕ × ℕ)) (m : Moment). l ++ replies_of m then) (turn_replies r position w) (turn_is r position w)
    ∙ append_assoc (map told r.replies) now (replies_of (after (moment_of r) (turned r w)) then)
    ∙ ap (λ l. map told r.replies ++ l) (sym (replies_both (moment_of r) (turned r w) then))

-- ---- their keys

all_take : {P : Request → Type 0} (n : ℕ) {xs : List Request} → All P xs → All P (take n xs)
all_take zero a = none
all_take (suc n) none = none
all_take (suc n) (each p a) = each p (all_take n a)

all_drop : {P : Request → Type 0} (n : ℕ) {xs : List Request} → All P xs → All P (drop n xs)
all_drop zero a = a
all_drop (suc n) none = none
all_drop (suc n) (each p a) = all_drop n a

-- what each worker has left
abbrev Left : List (List Request) → Type 0
Left left = (w : ℕ) → All Fitting (get_or left w [])

shares_fit : (counts : List ℕ) (qs : List Request) → All Fitting qs → Left (shares counts qs)
unfolding shares
shares_fit [] qs a w = none
shares_fit (n ∷ ns) qs a zero = all_take n a
shares_fit (n ∷ ns) qs a (suc w) = shares_fit ns (drop n qs) (all_drop n a) w

rest_fits : (left : List (List Request)) (w : ℕ) (qs : List Request) → Left left → All Fitting qs → Left (set left w qs)
rest_fits left w qs l a v =
    elim (same? v w) [
      | inl e ↦ elim (lt_or w (length left)) [
        | inl h ↦ rw (e, get_or-set_same left w qs [] h) a
        | inr h ↦ rw (e, set_out left w qs h) (l w)
      ]
      | inr n ↦ rw (get_or-set_other left w v qs [] n) (l v)
    ]

taking_fits : (w : ℕ) (qs : List Request) → All Fitting qs → All Keyed (taking w qs)
taking_fits w [] a = none
taking_fits w (q ∷ qs) (each p a) = each {x = takes w q} p none

-- one turn, and then all of them
left_after : (r : Running) (position w : ℕ) → Left r.left → Left (turn r position w).left
left_after r position w l = by (busy r.table w) (get_or r.left w []) (l w)
  where
    by : (b : Bool) (qs : List Request) → All Fitting qs → Left (pick b (steps_on r position w) (takes_up r w qs)).left
    by true qs a = l
    by false [] a = l
    by false (q ∷ qs) (each p a) = rest_fits r.left w qs l a

turned_fits : (r : Running) (w : ℕ) → Left r.left → All Keyed (turned r w)
turned_fits r w l = by (busy r.table w)
  where
    by : (b : Bool) → All Keyed (pick b (steps w ∷ []) (taking w (get_or r.left w [])))
    by true = each {x = steps w} tt none
    by false = taking_fits w (get_or r.left w []) (l w)

choices_fit : (r : Running) (position : ℕ) (ws : List ℕ) → Left r.left → All Keyed (choices r position ws)
unfolding choices
choices_fit r position [] l = none
choices_fit r position (w ∷ ws) l = all_append (turned_fits r w l) (choices_fit (turn r position w) (suc position) ws (left_after r position w l))

-- The whole run of a script.
module _ (s : Script) where
  abbrev begins : Running
  begins = record {
    catalogue = (start (length s.counts)).catalogue;
    table = (start (length s.counts)).table;
    left = shares s.counts s.requests;
    replies = [];
  }

  pub script_choices : List Choice
  script_choices = choices begins 1 s.schedule

  pub run_is : (run s).catalogue ≡ (at (length s.counts) script_choices).catalogue
  unfolding run script_choices
  run_is = ap (λ m. m.catalogue) (play_is begins 1 s.schedule)

  pub run_replies : map told (run s).replies ≡ replies_of (start (length s.counts)) script_choices
  unfolding run script_choices
  run_replies = play_replies begins 1 s.schedule

  pub run_keyed : All Fitting s.requests → All Keyed script_choices
  unfolding script_choices
  run_keyed a = choices_fit begins 1 s.schedule (shares_fit s.counts s.requests a)
