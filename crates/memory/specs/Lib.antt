-- What the contracts of the lent memory cite beside the definitions of document 01.
pub mod Memories
