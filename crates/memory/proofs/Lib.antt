-- Laws of the lent memory, for the proofs of this crate and of those above it.
pub mod Sizes
pub mod Tables
pub mod Laid
pub mod Agreement
pub mod Agrees
