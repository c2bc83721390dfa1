pub mod Sends
pub mod Journals
pub mod Steps
pub mod Refusals
