-- The contents line and the body after it are the text of a listing.
-- Where the check of soundness passes, there is room for both.
use Prim.Native.Nat.{ℕ, ◌+◌, ◌*◌, ◌≤◌}
use mathlib.Core.Bool.{Bool, true, false}
use mathlib.Core.List.{List, [], ◌∷◌, ◌++◌, map}
use mathlib.Core.Path.{◌≡◌, refl, sym, ap, ap₂, ◌∙◌}
use native.Mathlib.Omega.{arith}
use native.Mathlib.Nat.{zero-add}
use borrow.Author.Rules.{rules}
use mir.Syntax.{w32}
use mir.Val.{Fits}
use lib.IntN.{ℤ, pos}
use lib.ListN.{length, drop, length-append}
use Rattle.std.proofs.Common.{Result, Ok, Err}
use Rattle.catalogue.specs.Tests.{keep}
use Rattle.catalogue.specs.Numbers.{head, tail, edge_tail, vertex_pool, edge_pool}
use Rattle.catalogue.specs.Catalogue.{Catalogue}
use Rattle.catalogue.specs.Lent.{catalogue_in}
use Rattle.catalogue.specs.Listing.{ReplyLine, reply_numbers, contents, added_edges, vertex_lines, edge_lines, result_text, written, list_into}
use Rattle.catalogue.specs.Live.{next_vertex, first_edge, next_edge, unmarked, is_added, edges_of, live_vertices, live_edges}
use Rattle.catalogue.specs.Soundness.{Asks, listing, sound}
use Rattle.catalogue.specs.Text.{line, lines}
use Rattle.catalogue.specs.declared.answers.Refusal.TheVariants as refusal
use Rattle.resting.proofs.Sound.{edges_few}
use Rattle.survey.specs.Walks.{linked}
use Rattle.text.specs.Puts.{put_at}
use Rattle.text.proofs.Runs.{put_then, end_then}
use Rattle.text.proofs.LineLaws.{AllShort, length_short}
use Rattle.text.proofs.Naturals.{natural_short}
use Rattle.listing.specs.Walks.{kept_from}
use Rattle.listing.proofs.Kept.{kept_short}
use Rattle.listing.proofs.Counts.{gather_short}
use Rattle.listing.proofs.Listed.{had_room}
use Rattle.listing.proofs.Whole.{lines_append}

-- ---- what there is to count fits a number of the contents line

module _ (C : Catalogue) where
  pub few_vertices : length (live_vertices C) ≤ 256
  unfolding kept_from
  few_vertices = kept_short (next_vertex C) tail (unmarked C) vertex_pool (next_vertex C head)

  pub few_added : length (added_edges C) ≤ 524288
  unfolding kept_from
  few_added =
      let short : (x : ℕ) → length (keep (is_added C) (edges_of C x)) ≤ 2048 =
      λ x. kept_short (next_edge C) edge_tail (is_added C) edge_pool (first_edge C x) in
      omega (arith, few_vertices, gather_short (λ x. keep (is_added C) (edges_of C x)) short (live_vertices C))

module _ (words : List ℕ) where
  pub vertices_fit : (v : ℕ) → v ≡ length (live_vertices (linked words)) → Fits w32 v
  vertices_fit v e = record { fits = omega (arith, few_vertices (linked words)) }

  pub added_fit : (v : ℕ) → v ≡ length (added_edges (linked words)) → Fits w32 v
  added_fit v e = record { fits = omega (arith, few_added (linked words)) }

  module _ (replies v e at : ℕ) (ev : v ≡ length (live_vertices (linked words))) (ee : e ≡ length (added_edges (linked words))) where
    abbrev counted : List ℤ
    counted = pos replies ∷ (pos v ∷ (pos e ∷ []))

    abbrev numbers : List ℤ
    numbers = pos replies ∷ (pos (length (live_vertices (linked words))) ∷ (pos (length (added_edges (linked words))) ∷ []))

    same : counted ≡ numbers
    same = ap₂ (λ (a b : ℕ). pos replies ∷ (pos a ∷ (pos b ∷ []))) ev ee

    pub contents_put : (l k : List ℕ) → k ≡ put_at l at (line counted) → k ≡ put_at l at (line numbers)
    contents_put l k put = put ∙ ap (λ ns. put_at l at (line ns)) same

    pub contents_end : (end : ℕ) → end ≡ at + length (line counted) → end ≡ at + length (line numbers)
    contents_end end last = last ∙ ap (λ ns. at + length (line ns)) same

    pub contents_within : (end : ℕ) → Fits w32 replies → end ≡ at + length (line counted) → end ≤ at + 36
    contents_within end f last =
        let short : AllShort counted = (natural_short replies f, (natural_short v (vertices_fit v ev), (natural_short e (added_fit e ee), tt))) in
        omega (arith, length_short (pos replies) (pos v ∷ (pos e ∷ [])) short)

pub ruleset contents_cases = (vertices_fit, added_fit, contents_put, contents_end, contents_within, rules)

-- ---- the text of a sound catalogue

pub text_parts : (C : Catalogue) (replies : List ReplyLine)
    → result_text C replies ≡ line (contents C replies) ++ (lines (map reply_numbers replies) ++ lines (vertex_lines C ++ edge_lines C))
unfolding result_text lines
text_parts C replies = ap (λ t. line (contents C replies) ++ t) (lines_append (map reply_numbers replies) (vertex_lines C ++ edge_lines C))

text_alone : (C : Catalogue) → result_text C [] ≡ line (contents C []) ++ lines (vertex_lines C ++ edge_lines C)
unfolding lines
text_alone C = text_parts C []

at_start : (text l : List ℕ) → put_at l 0 text ≡ written text l
at_start text l = ap (λ n. text ++ drop n l) (zero-add (length text))

module _ (keys : List ℤ) (words : List ℕ) where
  abbrev C : Catalogue
  C = catalogue_in keys words

  abbrev first : List ℕ
  first = line (contents C [])

  abbrev rest : List ℕ
  rest = lines (vertex_lines C ++ edge_lines C)

  abbrev live : ℕ
  live = length (live_edges (linked words))

  -- the room, whichever call asks whether all is sound
  module _ (l : List ℕ) (asked : Asks) (r : Bool) (e : r ≡ sound asked C) (q : r ≡ true) where
    limit : live ≤ 2047
    limit = edges_few asked C (sym e ∙ q)

    pub body_room : (m : List ℕ) (start : ℕ) → 65536 ≤ length l → length m ≡ length l → start ≤ 36 → start + 3072 + 24 * live ≤ length m
    body_room m start room long within = omega (arith, limit)

    pub text_fits : (start end : ℕ) → start ≤ 36 → end ≤ start + 3072 + 24 * live → Fits w32 end
    text_fits start end within all = record { fits = omega (arith, limit) }

  module _ (l : List ℕ) (r : Bool) (e : r ≡ sound listing C) where
    pub unsound_answer : r ≡ false → Err refusal.Torn ≡ (list_into C l).answer
    unfolding list_into
    unsound_answer q = rw (sym e ∙ q) refl

    pub unsound_output : r ≡ false → l ≡ (list_into C l).output
    unfolding list_into
    unsound_output q = rw (sym e ∙ q) refl

    module _ (q : r ≡ true) (start : ℕ) (began : start ≡ 0 + length first) where
      pub sound_answer : (end : ℕ) → end ≡ start + length rest → Ok end ≡ (list_into C l).answer
      unfolding list_into
      sound_answer end last =
          rw (sym e ∙ q) (ap Ok (end_then 0 start first rest began end last ∙ zero-add (length (first ++ rest)) ∙ ap length (sym (text_alone C))))

      pub sound_output : (m k : List ℕ) → m ≡ put_at l 0 first → k ≡ put_at m start rest → length m ≡ length l → length k ≡ length m → 65536 ≤ length l
          → k ≡ (list_into C l).output
      unfolding list_into
      sound_output m k one two long longer room =
          let lead : 0 + length first ≤ length l = had_room l m 0 0 first one long (omega arith) in
          let behind : start + length rest ≤ length m = had_room m k start 0 rest two longer (omega arith) in
          rw (sym e ∙ q)
          (put_then 0 start first rest began l m k one two (omega (arith, length-append first rest)) ∙ ap (put_at l 0) (sym (text_alone C)) ∙ at_start (result_text C []) l)

pub ruleset result_cases = (unsound_answer, unsound_output, body_room, text_fits, sound_answer, sound_output, rules)
