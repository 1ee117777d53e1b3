-- Laws of one turn, of what bounds a run, of the loop, and of the result.
pub mod TurnLaws
pub mod Owed
pub mod Moves
pub mod Bounds
pub mod Telling
pub mod Taking
pub mod Standing
pub mod Playing
pub mod Printing
pub mod Results
pub mod Drilled
