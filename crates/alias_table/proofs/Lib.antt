pub mod Drafts
pub mod Waiting
