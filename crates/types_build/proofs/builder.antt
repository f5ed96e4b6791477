pub mod BuilderPlacedLemmas
pub mod RepeatLemmas
pub mod BuilderMetLemmas
pub mod BuilderPartLemmas
pub mod ListingLemmas
pub mod BuilderWholeLemmas
