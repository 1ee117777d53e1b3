-- Laws of checks, and of the ones of a set.
pub mod CheckLaws
pub mod Ones
