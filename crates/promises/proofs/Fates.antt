-- What a worker's decision implies of its place: the definitions of the steps, gone through test by test.
pub mod Told
pub mod Places
pub mod Vertices
pub mod Finding
pub mod Edges
pub mod Trials
pub mod Any
