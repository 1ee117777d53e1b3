-- Laws that the proofs of this crate share.
pub mod Decisions
pub mod Made
