pub mod Forms
pub mod Mapped
pub mod Paging
pub mod Following
