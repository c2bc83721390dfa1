pub mod Words
pub mod Serving
pub mod Names
pub mod Links
