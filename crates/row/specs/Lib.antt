-- A machine of plain lists. Its world is the vertex list and the edge lists as functions on node numbers; beside each
-- edge stands its owner, a ghost that no step reads. Nothing is proved here.
-- the row, for any kind of call
pub mod Rows
-- the lists, and how they may change
pub mod Lists
-- the machine: worlds, steps, choices, histories
pub mod Machine
