-- RULES.md 4.12 to 4.17, keywords, in their order.
pub mod Values
pub mod RecordDesc
pub mod TableRecord
pub mod Keywords
