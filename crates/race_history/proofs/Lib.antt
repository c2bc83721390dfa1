pub mod Lining
pub mod Histories
pub mod Telling
pub mod Ending
pub mod Opening
pub mod Claiming
pub mod Laws
