-- What holds at the start is kept by every choice of a run.
pub mod Held
pub mod Fresh
pub mod Telling
pub mod Done
pub mod Stepping
pub mod Taking
pub mod Sweeping
pub mod Next
pub mod Schedule
pub mod Course
pub mod Scripts
pub mod Accepted
