pub mod CheckLemmas
pub mod EndingLemmas
pub mod FoundLemmas
pub mod FractionLemmas
pub mod OutcomeLemmas
pub mod ReportLemmas
pub mod SourceLemmas
