pub mod GenTypeLemmas
pub mod GenVerdictLemmas
pub mod GenLineLemmas
pub mod MakingLemmas
pub mod AskLemmas
pub mod GenAccountLemmas
