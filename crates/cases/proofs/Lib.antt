-- The cases.
pub mod Computed
pub mod ComputedKeywords
