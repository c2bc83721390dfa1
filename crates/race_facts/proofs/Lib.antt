pub mod Facts
pub mod Serving
pub mod Switching
pub mod Moving
pub mod Racing
pub mod Opening
pub mod Claiming
pub mod Laws
