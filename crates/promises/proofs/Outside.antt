-- The three replies that stand outside the row: 6, 7 and 9.
pub mod Replies
pub mod Spots
pub mod Needed
pub mod Room
pub mod Rivals
pub mod Tried
pub mod Run
pub mod Passing
pub mod Ways
pub mod Trials
pub mod Crossing
pub mod Chains
pub mod Calm
pub mod Loops
pub mod Quiet
pub mod Undisturbed
