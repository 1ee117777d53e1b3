-- Laws of walks, by the cases of the recursion, and of the text that they make.
pub mod Kept
pub mod Counts
pub mod Listed
pub mod Whole
pub mod Results
pub mod Room
