pub mod TableFieldLemmas
pub mod TableDecideLemmas
pub mod TableFewLemmas
