pub mod TypeTableMadeLemmas
pub mod TypeTableTextLemmas
pub mod TypeTableWriteLemmas
