pub mod EntryAcceptedLemmas
pub mod NormalLemmas
pub mod VerifiedLemmas
pub mod EntryTestLemmas
pub mod EntryJudgeLemmas
pub mod EntryReachedLemmas
pub mod EntryHeldLemmas
pub mod RightLemmas
