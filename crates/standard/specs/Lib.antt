-- Definitions that only serve the code of this crate.
pub mod Columns
pub mod Check
pub mod Bit
