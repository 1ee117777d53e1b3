-- What is proved of the definitions in specs/: the worked examples.
pub mod Examples
