pub mod GenSpecFindLemmas
pub mod GenSpecLawfulLemmas
pub mod GenSpecIdleLemmas
pub mod DueLemmas
pub mod LeavesLemmas
