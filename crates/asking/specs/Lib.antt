-- What a request by a lone worker comes to, and what many come to.
pub mod Asked
pub mod Tallies
