-- Laws that the proofs cite.
pub mod Kept
pub mod Sides
pub mod Ways
pub mod Accepted
pub mod Bounds
pub mod Ends
pub mod ObjectKept
pub mod ObjectSides
pub mod ObjectAccepted
pub mod ObjectBounds
pub mod ObjectEnds
pub mod Rows
pub mod Forward
pub mod Wider
