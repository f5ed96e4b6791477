pub mod DoublesLemmas
pub mod CanonicalCheckHeaderLemmas
pub mod CanonicalLemmas
