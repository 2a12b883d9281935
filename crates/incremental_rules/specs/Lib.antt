-- RULES.md 6, IncrementalStMan, in its order.
pub mod Header
pub mod Index
pub mod Bucket
pub mod Check
pub mod Place
pub mod OneBucket
