-- What carrying out a decision asks for.
pub mod Follows
