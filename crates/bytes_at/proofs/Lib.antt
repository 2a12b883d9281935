-- Laws that proofs of this crate and of those above it cite.
pub mod Comparing
pub mod Copied
pub mod Eights
pub mod Parts
pub mod Numbers
pub mod Loops
pub mod Stepped
pub mod Searched
pub mod Stages
pub mod Past
pub mod Tests
pub mod MoreTests
pub mod Apart
pub mod Listed
pub mod Room
pub mod Zeros
pub mod Digits
