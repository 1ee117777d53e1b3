-- Laws of the definitions that the proofs of several crates use.
pub mod Rules
pub mod Picks
pub mod Cases
pub mod Ways
pub mod Admits
pub mod Pools
pub mod Leads
pub mod Members
pub mod Distinct
pub mod Keys
pub mod Walks
pub mod Gathers
pub mod Bits
pub mod MetLaws
