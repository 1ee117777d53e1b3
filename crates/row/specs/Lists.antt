-- One list, and the lists of the machine: the vertex list and each vertex's edge list, with their changes. Nothing is
-- proved here.
pub mod Links
pub mod Store
pub mod Edges
