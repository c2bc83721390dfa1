pub mod Trees
pub mod Reading
pub mod Writing
pub mod Stored
pub mod Beside
