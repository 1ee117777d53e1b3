-- Laws of the one record that a call moves, of a table, and of one record of it in memory.
pub mod Cells
pub mod Moves
pub mod Starting
pub mod Stepping
pub mod Tables
