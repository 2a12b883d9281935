-- Laws that the proofs cite.
pub mod Each
pub mod Gathering
pub mod Fitting
pub mod Checking
