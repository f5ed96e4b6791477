pub mod LawLemmas
pub mod StreamCheckLemmas
