-- What the contracts of a sweep cite beside the definitions of document 01.
pub mod Built
pub mod Promised
