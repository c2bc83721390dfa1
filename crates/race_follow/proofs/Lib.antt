pub mod Following
pub mod Laws
pub mod Pits
pub mod Refusals
