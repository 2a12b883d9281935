-- Laws of the questions, demand 3, and stale plans.
pub mod CellAsked
pub mod Files
pub mod Stages
pub mod Places
pub mod IncrementalPlaces
pub mod Refusals
pub mod Plans
pub mod Fresh
pub mod Said
pub mod Looks
pub mod Views
pub mod Texts
pub mod Blamed
pub mod OneBucket
