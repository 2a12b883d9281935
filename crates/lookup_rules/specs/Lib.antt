-- RULES.md 7 and 9: the questions, their answers; then what holds of stale plans and of views, demand 3, and what holds of one bucket.
pub mod Questions
pub mod Answers
pub mod Stale
pub mod Views
pub mod Looks
pub mod Demand
pub mod OneBucket
