pub mod AnswerLemmas
pub mod OneWeightLemmas
pub mod PairLemmas
pub mod TextLemmas
