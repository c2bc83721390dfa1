pub mod Attributes
pub mod Effects
pub mod Reading
