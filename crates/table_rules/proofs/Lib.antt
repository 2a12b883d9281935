-- Laws that the proofs cite.
pub mod Searches
pub mod Fronts
pub mod WholeBytes
pub mod Described
pub mod Blamed
pub mod TableKept
pub mod TableForward
pub mod WiderColumns
pub mod EachColumn
pub mod SomeBits
pub mod Behind
