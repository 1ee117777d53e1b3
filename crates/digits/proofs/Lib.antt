-- Laws of numbers that are read.
pub mod Values
pub mod Readings
pub mod Signs
pub mod Stops
