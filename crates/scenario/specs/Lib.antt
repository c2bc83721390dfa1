pub mod LineKinds
pub mod Lines
pub mod Scenario
