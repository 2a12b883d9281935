-- Laws that the proofs cite.
pub mod Laws
pub mod Placing
pub mod Cells
