-- What one step of one worker does to a good world, whatever the history.
pub mod VertexDeeds
pub mod Spots
pub mod Deeds
pub mod Writes
pub mod Outcomes
pub mod Tried
pub mod VertexDoing
pub mod Finding
pub mod EdgeMeans
pub mod TrialMeans
pub mod Hunting
pub mod Doing
