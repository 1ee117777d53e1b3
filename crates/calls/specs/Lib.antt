-- What the contracts of the public calls say, and that it allows one result only.
pub mod Promised
pub mod Unique
