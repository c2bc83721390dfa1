pub mod Stages
pub mod Mapped
