-- Laws that proofs of this crate and of those above it cite.
pub mod Cases
pub mod Table
pub mod Sizes
pub mod Names
pub mod Candidate
