pub mod ShowAgreeLemmas
pub mod ShowTableLemmas
pub mod FuelLemmas
pub mod NamedLemmas
pub mod ShowPartLemmas
pub mod ShowChunkLemmas
