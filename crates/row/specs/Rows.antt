-- One row of all answered calls: what it is.
pub mod Row
