-- What a step decides in catalogues that agree, by the kinds of looks.
pub mod Vertices
pub mod Finding
pub mod Edges
pub mod Trials
pub mod Deciding
