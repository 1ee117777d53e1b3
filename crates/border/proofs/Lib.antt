-- Laws of places, records, tables and answers as numbers.
pub mod Places
pub mod Tables
