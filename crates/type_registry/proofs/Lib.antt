pub mod ReadingLemmas
pub mod ApartLaws
