-- Laws of written bytes and of decimal numbers, for the proofs of this crate and of those above it.
pub mod Runs
pub mod Decimals
pub mod Spelling
pub mod Signs
pub mod LineLaws
pub mod Naturals
