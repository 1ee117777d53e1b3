-- Document 01, "The steps": a file for each kind of look, in the document's order, and the trial.
pub mod Places
pub mod Vertices
pub mod Finding
pub mod Both
pub mod Contains
pub mod Edges
pub mod Trial
pub mod Decide
