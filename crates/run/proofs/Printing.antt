-- The contents line, the lines of the replies and the body, written one after the other, are the whole result.
use Prim.Native.Nat.{ℕ, ◌+◌, ◌≤◌}
use mathlib.Core.List.{List, [], ◌∷◌, ◌++◌}
use mathlib.Core.Path.{◌≡◌, ap, ◌∙◌}
use native.Mathlib.Omega.{arith}
use native.Mathlib.Nat.{zero-add}
use borrow.Author.Rules.{rules}
use lib.IntN.{ℤ, pos}
use lib.ListN.{length, drop, length-append}
use Rattle.catalogue.specs.Lent.{catalogue_in, output_size}
use Rattle.catalogue.specs.Listing.{added_edges, vertex_lines, edge_lines, written}
use Rattle.catalogue.specs.Live.{live_vertices}
use Rattle.catalogue.specs.Text.{line, lines}
use Rattle.listing.proofs.Listed.{had_room}
use Rattle.survey.specs.Walks.{linked}
use Rattle.text.specs.Puts.{put_at}
use Rattle.text.proofs.Runs.{put_then, end_then}
use Rattle.run.specs.Prints.{printed}
use Rattle.run.specs.Turns.{lines_size}

module _ (keys : List ℤ) (words : List ℕ) (replies : ℕ) (told : List ℕ) where
  abbrev first : List ℕ
  first = line (pos replies ∷ (pos (length (live_vertices (linked words))) ∷ (pos (length (added_edges (linked words))) ∷ [])))

  abbrev rest : List ℕ
  rest = lines (vertex_lines (catalogue_in keys words) ++ edge_lines (catalogue_in keys words))

  module _ (at body : ℕ) (began : at ≡ 0 + length first) (went : body ≡ at + length told) where
    pub printed_end : (end : ℕ) → end ≡ body + length rest → end ≡ length (printed keys words replies told)
    printed_end end last = end_then 0 at first (told ++ rest) began end (end_then at body told rest went end last) ∙ zero-add (length (first ++ (told ++ rest)))

    pub printed_put : (l m k n : List ℕ) → m ≡ put_at l 0 first → k ≡ put_at m at told → n ≡ put_at k body rest → length m ≡ length l → length k ≡ length m → length n ≡ length k
        → output_size ≤ length l → at ≤ 36 → length told ≤ lines_size → n ≡ written (printed keys words replies told) l
    printed_put l m k n one two three long longer longest room start short =
        let behind : body + length rest ≤ length k = had_room k n body 0 rest three longest (omega arith) in
        let both : n ≡ put_at m at (told ++ rest) = put_then at body told rest went m k n two three (omega (arith, length-append told rest)) in
        put_then 0 at first (told ++ rest) began l m n one both (omega (arith, length-append first (told ++ rest), length-append told rest))
        ∙ ap (λ n. printed keys words replies told ++ drop n l) (zero-add (length (printed keys words replies told)))

pub ruleset printing = (printed_end, printed_put, rules)
