-- The step bounds: how far a call has come never falls, rises with each of its own steps, and is bounded.
pub mod Counting
pub mod Far
pub mod Kept
pub mod Passing
pub mod Looking
pub mod Trying
pub mod Forward
pub mod OwnStep
pub mod Others
pub mod Rising
pub mod Calls
pub mod Inserting
pub mod Costs
pub mod Tally
pub mod Alone
