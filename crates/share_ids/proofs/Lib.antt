pub mod AliasLaws
