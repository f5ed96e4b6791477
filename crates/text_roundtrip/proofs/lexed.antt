pub mod LexedTakenLemmas
pub mod LexedLemmas
pub mod CharLemmas
pub mod LexedNumberLemmas
pub mod LexedLineLemmas
