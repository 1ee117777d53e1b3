-- The machine: vertices, a world of them with edge lists, the steps of the six operations, choices, the runs that
-- they make, and their history. Nothing is proved here.
pub mod Vertices
pub mod World
pub mod Moves
pub mod Choices
