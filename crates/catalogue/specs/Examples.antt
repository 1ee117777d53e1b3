-- Worked examples: what is done, and what it must give. proofs/Examples proves each.
pub mod Rows
pub mod Checked
pub mod Damaged
pub mod Torn
pub mod Held
pub mod More
