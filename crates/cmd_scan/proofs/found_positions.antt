pub mod FoundPositionPrefixLemmas
pub mod FoundPositionOnceLemmas
pub mod SomeLemmas
pub mod FoundPositionLemmas
pub mod FoundPositionWholeLemmas
