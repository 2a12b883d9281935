-- RULES.md 5, StandardStMan, in its order; and, last, demand 3 of a map.
pub mod Header
pub mod Index
pub mod Map
pub mod Check
pub mod Place
pub mod Looks
pub mod Demand
