-- The worked examples, proved about the definitions by computing them: each file proves what the file of its name in
-- specs/Examples states.
pub mod Checked
pub mod Damaged
pub mod Torn
pub mod Held
pub mod More
