-- RULES.md 3, AipsIO: fields, then objects.
pub mod Field
pub mod Object
