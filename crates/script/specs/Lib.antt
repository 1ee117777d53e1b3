-- What the contracts of the reader cite beside the definition of scripts.
pub mod Words
pub mod Lines
pub mod Headers
pub mod Shares
pub mod Turns
pub mod Checks
