pub mod Keys
pub mod Lists
pub mod Tables
pub mod Outputs
pub mod Batches
pub mod Completing
pub mod Tablemaking
pub mod Requests
