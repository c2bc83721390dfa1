pub mod Owning
pub mod Costing
pub mod Bounding
pub mod Claiming
pub mod Laws
