-- The proofs: a catalogue and what its memory holds agree inside the pools, and no call looks outside them.
pub mod Twins
pub mod Agrees
pub mod Reading
pub mod Entries
pub mod Ranges
pub mod Steps
pub mod Calls
pub mod Lists
pub mod Lives
pub mod Sounds
pub mod Sweeps
pub mod Listings
pub mod Runs
