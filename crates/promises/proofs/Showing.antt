-- The catalogue and the world that it shows: the relation, what is read of it, and that each kind of write keeps it.
pub mod Weighing
pub mod Shows
pub mod Tests
pub mod Marks
pub mod Pools
pub mod Written
pub mod Turned
pub mod EdgeLinks
pub mod EdgeInsert
pub mod VertexWrites
