-- Laws that the proofs of this crate share: first those of the code's cases,
-- then that what the walks build is the second catalogue.
pub mod Busy
pub mod NodeLaws
pub mod CopyLaws
pub mod Kept
pub mod VertexCases
pub mod EdgeCases
pub mod ListCases
pub mod Refusals
pub mod Ends
pub mod VertexLists
pub mod Sources
pub mod FirstEdges
pub mod EdgeLists
pub mod NewNumbers
pub mod Second
