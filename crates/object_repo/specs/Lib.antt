pub mod Performing
pub mod Sending
