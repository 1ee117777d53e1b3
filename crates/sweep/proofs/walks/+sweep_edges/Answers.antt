-- The fuel falls at each vertex, whose list is made where the definition keeps it.
use Rattle.sweep.proofs.ListCases.{list_cases}
use Rattle.sweep.proofs.walks.+sweep_edges.Goals as goal

pub sweep_list-end-requires : goal.sweep_list-end-requires
sweep_list-end-requires t c = search list_cases

pub sweep_edges-requires : goal.sweep_edges-requires
sweep_edges-requires t c = search list_cases

pub sweep_edges-requires-2 : goal.sweep_edges-requires-2
sweep_edges-requires-2 t c = search list_cases
