-- Definitions that only serve the code of this crate.
pub mod Bounds
pub mod Check
pub mod Found
