-- Laws of memory that is cleared and laid out fresh.
pub mod Zeros
