pub mod AlikeMatchLemmas
pub mod HeldLemmas
pub mod MatchCauseLemmas
pub mod MatchShiftLemmas
pub mod OneAmpsLemmas
pub mod TextLemmas
