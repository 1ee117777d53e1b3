-- The test chooses the case of both definitions.
use Rattle.sweep.proofs.CopyLaws.{edge_copy}
use Rattle.sweep.proofs.copies.copy_edge.Goals as goal

pub edge_key-key-requires : goal.edge_key-key-requires
edge_key-key-requires c = search edge_copy

pub target_number-target-requires : goal.target_number-target-requires
target_number-target-requires c = search edge_copy

pub add_edge-requires-clause-n_bound : goal.add_edge-requires-clause-n_bound
add_edge-requires-clause-n_bound c = search edge_copy

pub overflow_add-made : goal.overflow_add-made
overflow_add-made c = search edge_copy

pub returns-then-is_live-clause-new_words_after : goal.returns-then-is_live-clause-new_words_after
returns-then-is_live-clause-new_words_after c = search edge_copy

pub returns-then-is_live-clause-value : goal.returns-then-is_live-clause-value
returns-then-is_live-clause-value c = search edge_copy

pub returns-clause-new_words_after : goal.returns-clause-new_words_after
returns-clause-new_words_after c = search edge_copy

pub returns-clause-value : goal.returns-clause-value
returns-clause-value c = search edge_copy
