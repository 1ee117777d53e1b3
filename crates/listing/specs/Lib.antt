-- What the contracts of the walks cite beside the definitions of the live graph, and what the call's contract says.
pub mod Promised
pub mod Walks
