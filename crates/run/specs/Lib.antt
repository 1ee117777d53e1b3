-- What the contracts of a run cite beside the definitions of document 01.
pub mod Turns
pub mod Stands
pub mod Prints
pub mod Promised
pub mod Drills
