-- Every change keeps the lists sorted and is a move that hindsight allows.
pub mod LinkLaws
pub mod Hindsight
pub mod Linking
pub mod Kept
pub mod EdgeInsert
pub mod EdgeKept
