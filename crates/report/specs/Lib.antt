pub mod Members
pub mod Answers
pub mod Faults
pub mod Lines
