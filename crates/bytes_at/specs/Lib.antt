-- What all chapters share: numbers in bytes, lists, how definitions are put together, refusals and stages; and, last, how the code holds names.
pub mod Number
pub mod Bytes
pub mod Lists
pub mod Steps
pub mod Stages
