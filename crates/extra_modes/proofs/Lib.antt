pub mod ListLemmas
pub mod PlaceLemmas
pub mod NamedLemmas
pub mod GivenLemmas
pub mod FamilyLemmas
