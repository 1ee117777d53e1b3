-- The answer of a step is recorded: a reply has a line more, any other answer none.
use Prim.Native.Nat.{ℕ, ◌+◌, ◌≤◌}
use mathlib.Core.List.{List, [], ◌∷◌, ◌++◌, append_assoc}
use mathlib.Core.Path.{◌≡◌, refl, sym, ap, ◌∙◌}
use native.Mathlib.Omega.{arith}
use lib.IntN.{ℤ}
use lib.ListN.{length, take, drop, length-append}
use lib.Seq.{take_at, length-take-le}
use Rattle.std.proofs.Common.{Result, Ok, Err}
use Rattle.catalogue.specs.Catalogue.{Catalogue}
use Rattle.catalogue.specs.Listing.{ReplyLine, reply_numbers}
use Rattle.catalogue.specs.Run.{Running, with_reply}
use Rattle.catalogue.specs.Text.{line}
use Rattle.catalogue.specs.declared.answers.Refusal.{Refusal}
use Rattle.catalogue.specs.declared.answers.Answer.{Answer}
use Rattle.catalogue.specs.declared.answers.Answer.TheVariants.{Going, Reply}
use Rattle.catalogue.specs.declared.workers.Table.{Table}
use Rattle.memory.specs.Memories.{Hold}
use Rattle.text.specs.Puts.{put_at}
use Rattle.run.specs.Stands.{Stands, reply_text}
use Rattle.run.specs.Turns.{reply_bytes, moved, told, lines_told}
use Rattle.run.specs.declared.states.State.{State}
use Rattle.run.proofs.Bounds.{reply_snoc}

-- bytes put at the end of the first ones
take_put : (l : List ℕ) (end : ℕ) (b : List ℕ) → end ≤ length l → take (end + length b) (put_at l end b) ≡ take end l ++ b
take_put l end b h =
    let front : List ℕ = take end l ++ b in
    let long : length front ≡ end + length b = length-append (take end l) b ∙ ap (λ n. n + length b) (length-take-le end l h) in
    ap (take (end + length b)) (sym (append_assoc (take end l) b (drop (end + length b) l))) ∙ take_at front (drop (end + length b) l) (end + length b) long

module _ (text : List ℕ) (keys : List ℤ) (words l : List ℕ) (s : State) (r : Running) (st : Stands text keys words l s r) where
  module _ (keys' : List ℤ) (words' : List ℕ) (C' : Catalogue) (t : Table) (g : Hold keys' words' C') (room : s.end ≤ length l) (position w code : ℕ) where
    quiet : Stands text keys' words' l (moved s t) (record { catalogue = C'; table = t; left = r.left; replies = r.replies })
    quiet = record {
      held = g;
      manned = refl;
      left = st.left;
      counted = st.counted;
      ended = st.ended;
      lined = st.lined;
      left_long = st.left_long;
    }

    pub tells : (a : Result Answer Refusal) → Stands text keys' words' (lines_told l s.end position w code a) (told s t position w code a)
        (record { catalogue = C'; table = t; left = r.left; replies = with_reply r.replies position w code a })
    tells (Ok (Going met)) = quiet
    tells (Ok (Reply n)) =
        let x : ReplyLine = record { position = position; worker = w; code = code; reply = n } in
        record {
          held = g;
          manned = refl;
          left = st.left;
          counted = omega (arith, st.counted, length-append r.replies (x ∷ []));
          ended = omega (arith, st.ended, ap length (reply_snoc r.replies x), length-append (reply_text r.replies) (line (reply_numbers x)));
          lined = take_put l s.end (reply_bytes position w code n) room ∙ ap (λ t. t ++ reply_bytes position w code n) st.lined ∙ sym (reply_snoc r.replies x);
          left_long = st.left_long;
        }
    tells (Err q) = quiet
