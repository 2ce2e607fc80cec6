mod ApartLemmas
mod ProjectorLemmas
mod ConvolutionLemmas
mod WeightLemmas
mod InverseLemmas
mod EvenLemmas
mod InducedLemmas
