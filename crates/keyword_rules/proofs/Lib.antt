-- Laws that the proofs cite.
pub mod Kept
pub mod Turns
pub mod Levels
pub mod Searches
pub mod Forward
pub mod Walks
pub mod AnyPath
pub mod Says
pub mod Products
pub mod Sets
