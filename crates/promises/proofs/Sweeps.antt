-- The world after a sweep: what the swept catalogue shows, that it is good, and that its graph is the one before.
pub mod InRow
pub mod World
pub mod Vertices
pub mod Lists
pub mod Safe
pub mod Well
