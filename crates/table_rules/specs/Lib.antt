-- RULES.md 4, table.dat, in its order.
pub mod DataType
pub mod ColumnDesc
pub mod ColumnSet
pub mod Table
