-- Laws that the proofs cite.
pub mod Entries
pub mod Halving
pub mod HeaderBounds
pub mod DataBuckets
pub mod Accepting
pub mod Fitting
pub mod Places
pub mod Columns
pub mod Counted
pub mod Exactly
pub mod Looks
pub mod Blamed
