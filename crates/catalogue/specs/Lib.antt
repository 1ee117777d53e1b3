-- Document 01 as definitions, in its order. Each file renders one section or a part of one.
-- Nothing is proved here: what the worked examples state is proved in proofs/.
pub mod Tests
pub mod Numbers
pub mod Catalogue
pub mod Writes
pub mod Workers
pub mod Answers
pub mod Steps
pub mod Calls
pub mod Live
pub mod Soundness
pub mod Sweep
pub mod Text
pub mod Listing
pub mod Script
pub mod Run
pub mod Lent
pub mod Drill
pub mod Choosing
pub mod Examples
