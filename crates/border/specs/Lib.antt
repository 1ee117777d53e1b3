-- Which table the numbers of a host stand for, and which number is an answer.
pub mod Kept
pub mod Packing
