-- What the host's calls promise, over the definitions of document 01, and that it allows one result only.
pub mod Moves
pub mod Promised
pub mod Unique
