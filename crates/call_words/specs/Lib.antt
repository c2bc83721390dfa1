pub mod Mapped
pub mod Told
pub mod Product
pub mod Asking
pub mod Limits
