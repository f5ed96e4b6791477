pub mod TokenNumberLemmas
pub mod ResultLemmas
pub mod SummaryLemmas
pub mod TokenFaultLemmas
pub mod CompleteLemmas
pub mod TokenPartLemmas
