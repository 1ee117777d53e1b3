-- The live graph of a good world, what each change does to it, and why it has no loop.
pub mod LiveSet
pub mod Older
pub mod Good
pub mod Graph
pub mod Changes
pub mod Loops
