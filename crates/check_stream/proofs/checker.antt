pub mod CheckerPositionLemmas
pub mod AgainLemmas
pub mod Weaker
pub mod CheckerChunkLemmas
pub mod StateLemmas
pub mod CheckerRunLemmas
pub mod CheckerTakeLemmas
