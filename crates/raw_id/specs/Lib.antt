pub mod IndexNames
