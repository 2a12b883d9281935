-- Laws that the proofs cite.
pub mod Entry
pub mod First
