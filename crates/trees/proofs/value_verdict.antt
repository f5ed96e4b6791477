pub mod TreeVerdictVisitLemmas
pub mod AmongLemmas
pub mod TreeVerdictTableLemmas
pub mod SameLemmas
pub mod PairLemmas
pub mod TreeVerdictSoundLemmas
