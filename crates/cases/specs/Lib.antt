-- The small file, and its cases.
pub mod SmallFile
pub mod Cases
pub mod KeywordSets
