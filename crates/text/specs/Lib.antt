-- What the contracts of the writers cite beside the definitions of numbers and lines as bytes.
pub mod Puts
