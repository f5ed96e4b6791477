pub mod TextLineTableLemmas
pub mod TextLineLemmas
