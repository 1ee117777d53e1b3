-- The promises of demand 3, and the few definitions that they rest on.
pub mod Moments
pub mod Graphs
pub mod Alone
pub mod Histories
pub mod Outside
pub mod Bounds
pub mod Promises
pub mod Examples
pub mod BoundExamples
