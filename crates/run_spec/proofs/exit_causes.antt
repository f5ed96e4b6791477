pub mod ExitCauseTableLemmas
pub mod CauseLemmas
