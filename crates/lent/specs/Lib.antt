-- A host's runs on lent memory, and that they are the runs of the definitions.
pub mod Hosting
pub mod SameRuns
