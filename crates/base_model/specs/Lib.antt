pub mod Keyed
pub mod Outcomes
