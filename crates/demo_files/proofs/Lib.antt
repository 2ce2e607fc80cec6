pub mod CubicMatrices
pub mod DemoLemmas
pub mod DemoTexts
pub mod KeepingLemmas
pub mod LengthLemmas
