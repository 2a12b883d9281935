-- Laws that proofs of this crate and of those above it cite.
pub mod Starts
pub mod Covering
pub mod Halving
