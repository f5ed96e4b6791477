pub mod LeafDumpLemmas
pub mod EscapeLemmas
pub mod LeafObjectLemmas
pub mod LeafRowLemmas
pub mod LeafStringLemmas
mod LeafFrameLemmas
mod LeafNameLemmas
mod LeafNumberLemmas
