-- What the contracts of the survey cite beside the definitions of document 01.
pub mod Walks
