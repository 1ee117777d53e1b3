-- What each event of a run of the machine is, so that all answered calls stand in one row. The crate `promises` shows
-- that a catalogue makes the same runs, and takes the row and the invariants from here.
-- laws of updates, of the order of keys, of tests
pub mod Base
pub mod Tests
-- a row can be put together from what each event is
pub mod Assemble
-- how the lists change, and what a walker may say of the past (hindsight)
pub mod Lists
-- the live graph, and why it has no loop
pub mod Graphs
-- what a step does to a good world
pub mod Steps
-- the invariants of a run, and what each of its events is
pub mod Events
