-- A sweep, at rest: what it keeps, and how it numbers the nodes, for every sound catalogue.
pub mod Kept
