pub mod Sample
pub mod Upgrades
pub mod Versions
pub mod Deleting
pub mod Pages
pub mod Example
