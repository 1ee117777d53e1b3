-- What bounds a run: no more replies come than there are requests, and each has a line of at most 11 bytes.
use Prim.Native.Nat.{ℕ, suc, ◌+◌, ◌*◌, ◌≤◌, ◌<◌}
use mathlib.Core.Bool.{true, false}
use mathlib.Core.List.{List, [], ◌∷◌, ◌++◌, append_assoc, append-nil}
use mathlib.Core.Path.{◌≡◌, refl, sym, ap, ◌∙◌}
use native.Mathlib.Omega.{arith}
use lib.Dec.{T, leb, leb→le}
use lib.IntN.{pos}
use lib.ListN.{length, get_or, length-set, length-append}
use Rattle.std.proofs.Common.{Result, Ok, Err}
use Rattle.catalogue.specs.Calls.{step}
use Rattle.catalogue.specs.Catalogue.{fresh}
use Rattle.catalogue.specs.Listing.{ReplyLine, reply_numbers}
use Rattle.catalogue.specs.Numbers.{most_workers}
use Rattle.catalogue.specs.Run.{Running, shares, with_reply, steps_on, takes_up, turn}
use Rattle.catalogue.specs.Choosing.{after}
use Rattle.catalogue.specs.Script.{Script, sum, most_requests, most_turns}
use Rattle.catalogue.specs.Text.{decimal, number, line, lines}
use Rattle.catalogue.specs.Workers.{busy, worker_at, request_of, idle_table}
use Rattle.catalogue.specs.declared.answers.Refusal.{Refusal}
use Rattle.catalogue.specs.declared.answers.Answer.{Answer}
use Rattle.catalogue.specs.declared.answers.Answer.TheVariants.{Going, Reply}
use Rattle.catalogue.specs.declared.workers.Place.{Place}
use Rattle.catalogue.specs.declared.workers.Place.TheVariants.{Idle, AddV, RemV, ConV, AddEFindU, RemEFindU, ConEFindU, AddEFindV, RemEFindV, ConEFindV, AddE, RemE, ConE, Trial, TrialOpen}
use Rattle.catalogue.specs.declared.workers.Request.{Request}
use Rattle.laws.proofs.Picks.{pick_both}
use Rattle.memory.proofs.Agrees.{agree_laid}
use Rattle.lent.proofs.Calls.{step_alike, take_up_alike}
use Rattle.lent.proofs.Ranges.{TableInRange}
use Rattle.lent.proofs.Runs.{run_in_range}
use Rattle.text.proofs.Decimals.{length_most}
use Rattle.text.proofs.LineLaws.{followed, line_one, line_more}
use Rattle.run.specs.Stands.{reply_text}
use Rattle.run.specs.Turns.{reply_bytes}
use Rattle.run.proofs.Moves.{replied, step_moves, take_up_starts}
use Rattle.run.proofs.Owed.{owed, few_owed}

-- ---- lines of replies

pub reply_snoc : (rs : List ReplyLine) (r : ReplyLine) → reply_text (rs ++ (r ∷ [])) ≡ reply_text rs ++ line (reply_numbers r)
unfolding lines
reply_snoc [] r = append-nil (line (reply_numbers r))
reply_snoc (q ∷ rs) r = ap (λ t. line (reply_numbers q) ++ t) (reply_snoc rs r) ∙ sym (append_assoc (line (reply_numbers q)) (reply_text rs) (line (reply_numbers r)))

length_followed : (n b : ℕ) → length (followed (pos n) b) ≡ length (decimal n) + 1
unfolding number
length_followed n b = length-append (decimal n) (b ∷ [])

reply_length : (position w code n : ℕ) → position ≤ 8192 → w ≤ 9 → code ≤ 9 → n ≤ 9 → length (reply_bytes position w code n) ≤ 11
reply_length position w code n a b c d =
    omega (
      arith,
      ap length (line_more (pos position) (pos w) (pos code ∷ (pos n ∷ []))),
      length-append (followed (pos position) 32) (line (pos w ∷ (pos code ∷ (pos n ∷ [])))),
      ap length (line_more (pos w) (pos code) (pos n ∷ [])),
      length-append (followed (pos w) 32) (line (pos code ∷ (pos n ∷ []))),
      ap length (line_more (pos code) (pos n) []),
      length-append (followed (pos code) 32) (line (pos n ∷ [])),
      ap length (line_one (pos n)),
      length_followed position 32,
      length_followed w 32,
      length_followed code 32,
      length_followed n 10,
      length_most 3 position (omega arith),
      length_most 0 w (omega arith),
      length_most 0 code (omega arith),
      length_most 0 n (omega arith),
    )

code_small : (p : Place) → T (leb (request_of p).code 9)
code_small Idle = tt
code_small (AddV k p c) = tt
code_small (RemV k p c) = tt
code_small (ConV k c) = tt
code_small (AddEFindU pair c) = tt
code_small (RemEFindU pair c) = tt
code_small (ConEFindU pair c) = tt
code_small (AddEFindV pair u c) = tt
code_small (RemEFindV pair u c) = tt
code_small (ConEFindV pair u c) = tt
code_small (AddE ends p c) = tt
code_small (RemE ends p c) = tt
code_small (ConE ends c) = tt
code_small (Trial ends e) = tt
code_small (TrialOpen ends e x c) = tt

-- ---- a running

-- so many workers, which have given and owe no more replies than a script has requests, each with a short line
pub record Bounded (workers : ℕ) (r : Running) : Type 0 where
  pub counted : r.table.count ≡ workers
  pub long : length r.table.workers ≡ most_workers
  pub shared : length r.left ≡ workers
  pub owing : length r.replies + owed r.table.workers r.left ≤ most_requests
  pub short : length (reply_text r.replies) ≤ 11 * length r.replies
  pub ranged : TableInRange r.table

-- what a reply adds
module _ (rs : List ReplyLine) (short : length (reply_text rs) ≤ 11 * length rs) (position w code : ℕ) (a : position ≤ 8192) (b : w ≤ 9) (c : code ≤ 9) where
  abbrev more : Result Answer Refusal → List ReplyLine
  more = with_reply rs position w code

  more_replies : (x : Result Answer Refusal) → length (more x) ≡ length rs + replied x
  more_replies (Ok (Going met)) = omega arith
  more_replies (Ok (Reply n)) = length-append rs _
  more_replies (Err r) = omega arith

  more_short : (x : Result Answer Refusal) → ((n : ℕ) → x ≡ Ok (Reply n) → n ≤ 9) → length (reply_text (more x)) ≤ 11 * length (more x)
  more_short (Ok (Going met)) s = short
  more_short (Ok (Reply n)) s =
      let r : ReplyLine = record { position = position; worker = w; code = code; reply = n } in
      omega (
        arith,
        ap length (reply_snoc rs r),
        length-append (reply_text rs) (line (reply_numbers r)),
        reply_length position w code n a b c (s n refl),
        more_replies (Ok (Reply n)),
      )
  more_short (Err r) s = short

module _ (workers : ℕ) (few : workers ≤ 8) (r : Running) (b : Bounded workers r) (position w : ℕ) (timed : position ≤ most_turns) (h : w < workers) where
  steps_bounded : busy r.table w ≡ true → Bounded workers (steps_on r position w)
  steps_bounded on =
      let m = step_moves r.catalogue r.table w on in
      let code : ℕ = (request_of (worker_at r.table w).place).code in
      let small : code ≤ 9 = leb→le code 9 (code_small (worker_at r.table w).place) in
      record {
        counted = m.counted ∙ b.counted;
        long = m.long ∙ b.long;
        shared = b.shared;
        owing = omega (arith, b.owing, m.owing r.left (omega (arith, b.long)) (omega (arith, b.shared)), more_replies r.replies b.short position w code timed (omega arith) small (step r.catalogue r.table w).answer);
        short = more_short r.replies b.short position w code timed (omega arith) small (step r.catalogue r.table w).answer m.small;
        ranged = (step_alike (agree_laid r.catalogue) r.table b.ranged w).range;
      }

  takes_bounded : busy r.table w ≡ false → (qs : List Request) → get_or r.left w [] ≡ qs → Bounded workers (takes_up r w qs)
  takes_bounded off [] e = b
  takes_bounded off (q ∷ qs) e =
      let m = take_up_starts r.catalogue r.table w off q in
      record {
        counted = m.counted ∙ b.counted;
        long = m.long ∙ b.long;
        shared = length-set r.left w qs ∙ b.shared;
        owing = omega (arith, b.owing, m.owing r.left qs (omega (arith, b.long)) (omega (arith, b.shared)), ap length e);
        short = b.short;
        ranged = (take_up_alike (agree_laid r.catalogue) r.table b.ranged w q).range;
      }

  pub turn_bounded : Bounded workers (turn r position w)
  turn_bounded = pick_both (Bounded workers) (busy r.table w) _ _ steps_bounded (λ off. takes_bounded off (get_or r.left w []) refl)

-- ---- the start

length_shares : (counts : List ℕ) (qs : List Request) → length (shares counts qs) ≡ length counts
unfolding shares
length_shares [] qs = refl
length_shares (c ∷ counts) qs = ap suc (length_shares counts _)

pub start_bounded : (s : Script) → sum s.counts ≤ most_requests
    → Bounded (length s.counts) (record { catalogue = fresh; table = idle_table (length s.counts); left = shares s.counts s.requests; replies = [] })
unfolding lines after
start_bounded s most = record {
  counted = refl;
  long = refl;
  shared = length_shares s.counts s.requests;
  owing = omega (arith, few_owed s.counts s.requests);
  short = omega arith;
  ranged = run_in_range (length s.counts) [];
}
