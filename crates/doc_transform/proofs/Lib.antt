pub mod StepLaws
pub mod IdLaws
pub mod ObjectLaws
pub mod ShareLaws
pub mod ListLaws
