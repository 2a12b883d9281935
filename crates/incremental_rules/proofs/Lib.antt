-- Laws that proofs of the crates above cite.
pub mod BucketAnyCell
pub mod Last
pub mod Values
pub mod Accepted
pub mod Turns
pub mod Taken
pub mod AnyCell
pub mod Columns
pub mod Search
pub mod Numbers
pub mod Rows
pub mod Exactly
pub mod Places
pub mod Vectors
pub mod IndexVectors
pub mod Blamed
