pub mod TallyLemmas
pub mod ToldLemmas
pub mod WatcherLemmas
