pub mod RebuildOnceLemmas
pub mod SpokenLemmas
pub mod SpokenTypeLemmas
pub mod SpokenTextLemmas
pub mod LawLemmas
pub mod RebuiltLemmas
