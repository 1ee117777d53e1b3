-- A catalogue that shows a good world: what its walks meet, that it is sound, and that its live graph is the world's.
pub mod Among
pub mod Walked
pub mod Meets
pub mod AtRest
pub mod Live
