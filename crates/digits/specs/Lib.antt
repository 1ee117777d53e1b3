-- What the contracts of the readers of numbers cite.
pub mod Digits
