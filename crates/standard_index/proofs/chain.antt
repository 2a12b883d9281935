-- Laws of the gathered index text.
pub mod Gathered
pub mod Room
