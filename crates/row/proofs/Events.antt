-- What holds at every moment of every run, and what each event of it is.
pub mod Fine
pub mod Happen
