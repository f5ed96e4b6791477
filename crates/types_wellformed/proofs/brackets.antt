pub mod BracketLemmas
pub mod SightingLemmas
pub mod BracketTableLemmas
pub mod BracketTreeLemmas
