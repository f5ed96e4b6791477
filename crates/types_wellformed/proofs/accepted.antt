pub mod AcceptedRankLemmas
pub mod AcceptedNameLemmas
pub mod AcceptedBracketLemmas
pub mod AcceptedLemmas
