pub mod Lifting
pub mod Mapped
pub mod Merging
