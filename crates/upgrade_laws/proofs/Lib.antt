pub mod Selecting
pub mod Listed
pub mod Moves
pub mod Checking
pub mod Naming
pub mod Rolling
pub mod Claims
