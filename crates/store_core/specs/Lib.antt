pub mod Standing
pub mod Engines
pub mod Copies
pub mod Journals
