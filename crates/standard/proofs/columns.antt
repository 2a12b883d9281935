-- Laws that the proofs cite.
pub mod Listed
pub mod Counting
pub mod Placing
pub mod Together
