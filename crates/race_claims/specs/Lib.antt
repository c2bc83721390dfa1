pub mod Shown
pub mod Unhindered
pub mod OneVersion
pub mod Unfailing
