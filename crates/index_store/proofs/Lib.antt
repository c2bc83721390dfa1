pub mod Places
pub mod Pits
pub mod Writes
pub mod Openings
pub mod Fronts
