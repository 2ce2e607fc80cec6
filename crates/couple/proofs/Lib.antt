mod VectorLemmas
mod WriteLemmas
mod TermLemmas
mod RowLemmas
mod EntryLemmas
mod PartLemmas
mod FirstLemmas
mod FoundLemmas
