pub mod Mapped
pub mod Turning
pub mod Judging
pub mod Answering
