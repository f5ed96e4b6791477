pub mod BuildAgreeLemmas
pub mod BuildOnceLemmas
pub mod BuildStepLemmas
pub mod TextsLemmas
pub mod BuildFeedLemmas
pub mod GuessLemmas
