pub mod Transforming
