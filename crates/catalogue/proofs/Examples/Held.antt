-- Document 01, "Numbers": the lent memory, number by number; and the record of a worker that has its reply.
use Rattle.std.specs.Prelude.{◌≡◌, refl, [], ◌∷◌, ◌++◌, map, pos}
use Rattle.catalogue.specs.Tests.{table_from}
use Rattle.catalogue.specs.Numbers.{least}
use Rattle.catalogue.specs.Catalogue.{fresh}
use Rattle.catalogue.specs.Workers.{idle_table}
use Rattle.catalogue.specs.Lent.{lay, view}
use Rattle.catalogue.specs.Choosing.{start, after}
use Rattle.catalogue.specs.Examples.Rows.{found, stepped}
use Rattle.catalogue.specs.Examples.Checked.{both_inserted}
use Rattle.catalogue.specs.Examples.Held.{words_at, keys_at, trial_on, trial_over, places, seen}

pub fresh_words : words_at fresh places ≡ 0 ∷ 0 ∷ 4 ∷ 0 ∷ 0 ∷ 0 ∷ 0 ∷ 0 ∷ 0 ∷ []
unfolding found lay table_from
fresh_words = refl

pub trial_words : words_at trial_on places ≡ 2 ∷ 1 ∷ 8 ∷ 12 ∷ 4 ∷ 4 ∷ 0 ∷ 3 ∷ 2 ∷ []
unfolding found after lay table_from
trial_words = refl

pub added_words : words_at trial_over places ≡ 2 ∷ 1 ∷ 8 ∷ 12 ∷ 4 ∷ 4 ∷ 0 ∷ 3 ∷ 3 ∷ []
unfolding found after lay table_from
added_words = refl

-- The keys of the vertices 0, 2 and 3 and of the edge 1.
pub trial_keys : keys_at trial_on (0 ∷ 2 ∷ 3 ∷ 257 ∷ []) ≡ least ∷ pos 5 ∷ pos 7 ∷ pos 7 ∷ []
unfolding found after lay table_from
trial_keys = refl

pub seen_words : seen (view (lay trial_on)) ≡ 2 ∷ 1 ∷ 8 ∷ 12 ∷ 4 ∷ 4 ∷ 0 ∷ 3 ∷ 2 ∷ []
unfolding found after lay table_from
seen_words = refl

pub seen_keys : (view (lay trial_on)).edges.key 1 ∷ map (view (lay trial_on)).vertices.key (0 ∷ 2 ∷ 3 ∷ []) ≡ pos 7 ∷ least ∷ pos 5 ∷ pos 7 ∷ []
unfolding found after lay table_from
seen_keys = refl

-- After its reply a worker's record is the idle one, also after a trial that met two vertices.
pub all_idle : (after (start 2) (both_inserted ++ (stepped 0 4 ++ stepped 1 4))).table ≡ idle_table 2
unfolding found after
all_idle = refl
