-- A script's run ends in a sound catalogue, so its result can be printed. What is printed is the result of the
-- definition.
use Prim.Native.Nat.{ℕ, ◌≤◌}
use mathlib.Core.Bool.{true}
use mathlib.Core.List.{List}
use mathlib.Core.Path.{◌≡◌, sym, ap, ap₂, ◌∙◌}
use native.Mathlib.Omega.{arith}
use borrow.Author.Tests.{le-leb}
use lib.IntN.{ℤ}
use lib.ListN.{length, take, length-take}
use Rattle.std.proofs.Common.{Ok}
use Rattle.catalogue.specs.Catalogue.{Catalogue}
use Rattle.catalogue.specs.Lent.{Memory, memory_of, view, lay, sized, output_fits, output_size, lent_run}
use Rattle.catalogue.specs.Listing.{ReplyLine, result_text, written}
use Rattle.catalogue.specs.Live.{live_edges}
use Rattle.catalogue.specs.Numbers.{most_edges}
use Rattle.catalogue.specs.Run.{run, run_text}
use Rattle.catalogue.specs.Script.{Script, good, read_script}
use Rattle.catalogue.specs.Soundness.{sound, listing}
use Rattle.laws.proofs.Picks.{clash}
use Rattle.memory.proofs.Agrees.{agree_laid}
use Rattle.lent.proofs.Listings.{text_same}
use Rattle.lent.proofs.Lives.{live_edges_same}
use Rattle.listing.proofs.Results.{text_parts}
use Rattle.resting.proofs.Sound.{edges_few}
use Rattle.promises.proofs.Runs.Accepted.{scripts_played}
use Rattle.promises.proofs.Runs.Course.{sound_at_rest}
use Rattle.script.specs.Checks.{IsScript, script_in}
use Rattle.script.specs.declared.checks.Checked.{Checked}
use Rattle.survey.specs.Walks.{linked}
use Rattle.run.specs.Prints.{printed, Printable}
use Rattle.run.specs.Promised.{RunsScript}
use Rattle.run.specs.Stands.{Stands}
use Rattle.run.specs.declared.states.State.{State}
use Rattle.run.proofs.Playing.{held_sized}

-- ---- a listing after a script is never refused

pub run_sound : (text : List ℕ) (s : Script) → read_script text ≡ good s → sound listing (run s).catalogue ≡ true
run_sound text s e =
    let p = scripts_played text s e in
    ap (sound listing) p.same ∙ sound_at_rest (length s.counts) p.choices p.given listing (λ q. clash (cc))

module _ (text : List ℕ) (c : Checked) (k : IsScript text c) (keys : List ℤ) (words l : List ℕ) (s : State) (st : Stands text keys words l s (run (script_in text c))) where
  abbrev C : Catalogue
  C = (run (script_in text c)).catalogue

  abbrev replies : List ReplyLine
  replies = (run (script_in text c)).replies

  laid : memory_of keys words ≡ lay C
  laid = ap₂ memory_of st.held.0 st.held.1

  few_live : length (live_edges (linked words)) ≤ most_edges
  few_live =
      let same : live_edges (linked words) ≡ live_edges C = ap (λ (m : Memory). live_edges (view m)) laid ∙ live_edges_same (agree_laid C) in
      omega (arith, ap length same, edges_few listing C (run_sound text (script_in text c) k.reads))

  -- what is printed is the result
  printed_is : printed keys words s.replies (take s.end l) ≡ run_text (script_in text c)
  unfolding run_text
  printed_is =
      ap₂ (printed keys words) st.counted st.lined ∙ sym (text_parts (view (memory_of keys words)) replies)
      ∙ ap (λ (m : Memory). result_text (view m) replies) laid ∙ text_same (agree_laid C) replies

  pub printable : s.end ≤ 11264 → (output : List ℕ) → output_size ≤ length output → Printable keys words output (take s.end l)
  printable few output room = record {
    sized = held_sized keys words (run (script_in text c)) st.held;
    roomy = room;
    short = omega (arith, length-take s.end l);
    few = few_live;
  }

  pub ran : (m : Memory) → sized m ≡ true → (output output' : List ℕ) → output_size ≤ length output → (n : ℕ) → n ≡ length (printed keys words s.replies (take s.end l))
      → output' ≡ written (printed keys words s.replies (take s.end l)) output → RunsScript text m output (Ok n) keys words output'
  unfolding lent_run output_fits
  ran m h output output' room n a b =
      rw (h, le-leb output_size (length output) room, k.reads)
      (ap Ok (a ∙ ap length printed_is), (st.held.0, (st.held.1, b ∙ ap (λ (t : List ℕ). written t output) printed_is)))
