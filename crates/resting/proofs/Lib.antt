-- That a sweep keeps what specs/Kept.antt says, from what is read at each new number.
pub mod Rows
pub mod Places
pub mod Blocks
pub mod Links
pub mod Sound
pub mod Vertices
pub mod Edges
pub mod SweptReads
pub mod Shape
pub mod Shares
pub mod Targets
pub mod Standing
pub mod Lines
pub mod Resound
pub mod Keeping
pub mod Below
