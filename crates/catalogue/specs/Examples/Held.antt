-- Document 01, "Numbers": how to see what the lent memory holds, number by number, at the places that `Lent` gives
-- each field. What it must hold is stated where it is proved, in proofs/.
use Rattle.std.specs.Prelude.{ℕ, List, [], ◌∷◌, ◌++◌, map, ℤ, pos, get_or}
use Rattle.catalogue.specs.Catalogue.{Catalogue}
use Rattle.catalogue.specs.Lent.{lay}
use Rattle.catalogue.specs.Choosing.{start, after}
use Rattle.catalogue.specs.Examples.Rows.{stepped}
use Rattle.catalogue.specs.Examples.Checked.{on_trial}

-- the words at some places of the memory that a catalogue is laid out in
abbrev pub words_at : Catalogue → List ℕ → List ℕ
words_at C places = map (λ i. get_or (lay C).words i 0) places

abbrev pub keys_at : Catalogue → List ℕ → List ℤ
keys_at C places = map (λ i. get_or (lay C).keys i (pos 0)) places

-- 5 and 7 are the vertices 2 and 3, and the edge 1 leads from 5 to 7, on trial and then ADDED.
abbrev pub trial_on : Catalogue
trial_on = (after (start 1) on_trial).catalogue

abbrev pub trial_over : Catalogue
trial_over = (after (start 1) (on_trial ++ stepped 0 3)).catalogue

-- Both counts; the links of the vertices 0, 2 and 3; the first-edge links of 2 and 3;
-- the target and the link of the edge 1.
abbrev pub places : List ℕ
places = 0 ∷ 1 ∷ 2 ∷ 4 ∷ 5 ∷ 260 ∷ 261 ∷ 515 ∷ 2563 ∷ []

-- The same fields, as a call reads them in the memory that it was lent.
abbrev pub seen : Catalogue → List ℕ
seen C = C.counts.vertices ∷ C.counts.edges ∷ C.vertices.link 0 ∷ C.vertices.link 2 ∷ C.vertices.link 3 ∷ C.vertices.first 2 ∷ C.vertices.first 3 ∷ C.edges.target 1 ∷ C.edges.link 1 ∷ []
