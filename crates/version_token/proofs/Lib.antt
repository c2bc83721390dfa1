pub mod TokenLaws
pub mod VersionLaws
