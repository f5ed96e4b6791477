pub mod BuildSpecLineLemmas
pub mod BuildSpecLawfulLemmas
pub mod BuildSpecOutputLemmas
pub mod BuildSpecTableLemmas
pub mod BuildSpecDisjointLemmas
pub mod BuildSpecNeverLemmas
