pub mod BitLemmas
pub mod CellLemmas
