-- The result of a run, as it is printed: the contents line, the lines of the replies, and the body of a listing.
use Rattle.std.specs.Prelude.{ℕ, ◌≤◌, List, [], ◌∷◌, ◌++◌, ℤ, pos, length}
use Rattle.catalogue.specs.Lent.{Sized, catalogue_in, output_size}
use Rattle.catalogue.specs.Listing.{added_edges, vertex_lines, edge_lines}
use Rattle.catalogue.specs.Live.{live_vertices, live_edges}
use Rattle.catalogue.specs.Numbers.{most_edges}
use Rattle.catalogue.specs.Text.{line, lines}
use Rattle.survey.specs.Walks.{linked}
use Rattle.run.specs.Turns.{lines_size}

abbrev pub printed : List ℤ → List ℕ → ℕ → List ℕ → List ℕ
printed keys words replies told =
    line (pos replies ∷ (pos (length (live_vertices (linked words))) ∷ (pos (length (added_edges (linked words))) ∷ [])))
    ++ (told ++ lines (vertex_lines (catalogue_in keys words) ++ edge_lines (catalogue_in keys words)))

-- memory of the stated sizes with few live edges, few lines, and an output of the stated size
pub record Printable (keys : List ℤ) (words output told : List ℕ) : Type 0 where
  pub sized : Sized keys words
  pub roomy : output_size ≤ length output
  pub short : length told ≤ lines_size
  pub few : length (live_edges (linked words)) ≤ most_edges
