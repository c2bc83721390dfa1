pub mod Plans
pub mod Claims
