pub mod Indices
pub mod Serves
pub mod Plain
