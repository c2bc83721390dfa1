pub mod Words
pub mod Calls
pub mod Acts
pub mod Steps
pub mod Plans
pub mod Scripts
pub mod Upgrades
pub mod History
