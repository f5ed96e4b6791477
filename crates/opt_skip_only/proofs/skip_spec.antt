pub mod SkippingLemmas
pub mod PassedLemmas
pub mod SkipTableLemmas
pub mod AtOnceLemmas
pub mod SkipFetchLemmas
