pub mod FitsNeedLemmas
pub mod FitsRowLemmas
