pub mod DistinctLemmas
pub mod LineLemmas
pub mod OrbitLemmas
pub mod Passed
pub mod PlacesLemmas
pub mod SearchLemmas
pub mod TableLemmas
