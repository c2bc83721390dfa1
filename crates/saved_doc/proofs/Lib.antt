pub mod ReadingLemmas
pub mod TreeForms
pub mod VersionLaws
pub mod StoredLaws
pub mod AgainLaws
pub mod RoundTrip
pub mod WritingLaws
pub mod SoundLaws
