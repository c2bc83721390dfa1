pub mod Splits
pub mod IndexLaws
pub mod RawLaws
