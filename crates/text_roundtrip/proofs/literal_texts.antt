pub mod RowLexLemmas
pub mod LeafReadLemmas
pub mod ObjectReadLemmas
pub mod RowReadLemmas
pub mod BlockReadLemmas
pub mod BlockAtLemmas
pub mod LawLemmas
