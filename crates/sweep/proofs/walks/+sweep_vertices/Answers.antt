-- The fuel falls at each vertex, which is made and numbered where the definition keeps it.
use Rattle.sweep.proofs.VertexCases.{vertex_cases}
use Rattle.sweep.proofs.walks.+sweep_vertices.Goals as goal

pub copy_vertex-requires : goal.copy_vertex-requires
copy_vertex-requires t c = search vertex_cases

pub sweep_vertices-requires : goal.sweep_vertices-requires
sweep_vertices-requires t c = search vertex_cases

pub sweep_vertices-requires-2 : goal.sweep_vertices-requires-2
sweep_vertices-requires-2 t c = search vertex_cases
