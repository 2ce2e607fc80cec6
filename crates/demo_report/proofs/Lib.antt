pub mod ChoiceLemmas
pub mod ListingLemmas
pub mod OrbitLemmas
pub mod UniqueLemmas
