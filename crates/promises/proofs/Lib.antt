-- The proofs of the promises: document 01's catalogue shows a world of plain lists,
-- on which the crate `row` proves them.
pub mod Showing
pub mod Hunts
pub mod Steps
pub mod Lists
pub mod Sweeps
pub mod Runs
pub mod Rows
pub mod Bounds
pub mod Fates
pub mod Outside
pub mod Promised
