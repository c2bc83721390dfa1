pub mod Premises
pub mod Unhindered
