pub mod Example
pub mod Rows
pub mod Races
pub mod Premises
