pub mod Names
pub mod Documents
pub mod Registries
pub mod Migrations
