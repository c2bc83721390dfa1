pub mod Mapped
pub mod RowsCode
