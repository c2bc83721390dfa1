pub mod Plans
pub mod Judged
pub mod Sizes
pub mod Creates
pub mod Spaces
pub mod Starts
