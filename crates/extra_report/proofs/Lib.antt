pub mod EachLemmas
pub mod SpaceLemmas
pub mod AmpsLemmas
pub mod OneAmpsLemmas
