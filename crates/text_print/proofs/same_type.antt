pub mod KeptLemmas
pub mod SameTypeTextLemmas
pub mod SameTypeLineLemmas
