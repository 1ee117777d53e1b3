-- Laws of the writes: what each makes of the catalogue that memory holds.
pub mod Stores
pub mod Commits
