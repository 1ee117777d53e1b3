-- All answered calls of a run stand in one row, by the row of the machine that makes the same run;
-- and a call alone has one outcome.
pub mod Begins
pub mod Sequential
pub mod Row
pub mod Walks
pub mod Outcome
